-- A commit of marks leaves no row of an array to resync but those that are left in it.
use Rattle.std.proofs.Common.{◌≡◌, ℕ, ◌<◌, ◌≤◌, Bool, true, false, List, Option, Some, unwrap_or, refl, sym, ap, subst, ◌∙◌, inl, inr}
use Rattle.rack.specs.Values.{Values}
use Rattle.rack.specs.Seen.{Image, RackView}
use Rattle.rack.specs.Joins.{leaves_weaker}
use Rattle.rack.specs.Targets.{put}
use Rattle.pool_state.specs.declared.contents.State.{State}
use Rattle.array_image.specs.Places.{log_slice}
use Rattle.array_image.specs.States.{state_in}
use Rattle.array_image.specs.Supers.{truth_in}
use Rattle.array_image.specs.SoundArray.{first_unsynced}
use Rattle.array_image.proofs.Frames.{Agree, state_same, supers_same, truth_by_supers}
use Rattle.array_image.specs.Arrays.{Shape, replayed}
use Rattle.array_image.specs.Left.{IsInside, LogsInside, Picks}
use Rattle.log_laws.specs.View.{LogView}
use Rattle.log_laws.specs.Commits.{ImageInCommit}
use Rattle.log_laws.proofs.Kept.{before_inside, joined_state, stands_of}
use Rattle.array_model.specs.View.{View, IsArray}
use Rattle.array_core.specs.Superblocks.{is_settled}
use Rattle.raid_laws.specs.Laws.{stood_left}
use Rattle.raid_laws.specs.Marking.{Restates}
use Rattle.raid_laws.specs.Raid.{Raid, InvariantInCall}
use Rattle.raid_laws.specs.Rows.{KeepsLacking, KeepsRows, LackingFrom, LeavesFrom, LeavesLacking, LeavesRows}
use Rattle.raid_laws.proofs.Marking.{MarksCall, alike_agree, alike_state, restated_after}
use Rattle.raid_laws.proofs.EachImage.{GoesBy, HasBefore, HasEach}
use Rattle.raid_laws.proofs.LackingRows.{lacking_all, lacking_by, lacking_same}
use Rattle.raid_laws.proofs.Rows.{KeepsClear, from_same, rows_by, settled_rows}

-- Contents that have the new state and the superblocks of the commit leave the rows that its truth does.
pub commit_leaves : (t : State) (noted : Shape) (view : View) (row : ℕ) (l : LogView) (a : RackView) (n : ℕ) → Restates t noted false view l.added a n → row ≤ first_unsynced view.truth
    → (before r : Image) → Picks a before → state_in r ≡ Some t → Agree n r (put a.sectors l.added before) → LeavesFrom row n r
commit_leaves t noted view row l a n restates low before r picks state_is agree at u state truth =
    let e : Image = put a.sectors l.added before in
    let same : at ≡ t = ap (λ (o : Option State). unwrap_or o at) (sym state ∙ state_is) in
    let fields = restates.truth before picks u
    (sym (truth_by_supers t r e n (supers_same t r e n agree)) ∙ subst (λ k. truth_in k r n ≡ Some u) same truth) in
    subst (λ k. row ≤ k) (sym (ap first_unsynced fields)) low

-- so those of an array that was settled leave the rows that are left
pub commit_rows : (t : State) (noted : Shape) (view own : View) (l : LogView) (a : RackView) (n : ℕ) → Restates t noted false view l.added a n → IsArray view → KeepsClear own view
    → is_settled own ≡ true → own.young ≡ false → (before r : Image) → Picks a before → state_in r ≡ Some t → Agree n r (put a.sectors l.added before) → LeavesFrom own.resync n r
commit_rows t noted view own l a n restates is_array clear settled young =
    commit_leaves t noted view own.resync l a n restates
    (subst (λ k. k ≤ first_unsynced view.truth) clear.resync (settled_rows view is_array (clear.young ∙ young) (clear.settled young settled)))

module _ (s t : State) (durable noted : Shape) (view : View) (vals : ℕ → Values) (spent gone : ℕ → Bool) (v w : Raid) (l : LogView) (on lost : List ℕ) (a b : RackView) (n : ℕ)
    (few : n < 16) (call : MarksCall s t gone l on lost a b) (restates : Restates t noted false view l.added a n)
    (stood : InvariantInCall s durable vals spent gone v a n) (gone_now : ℕ → Bool) (after : InvariantInCall t noted vals spent gone_now w b n) where
  -- what images had before it, and those with its superblocks have
  pub marks_each : (P : Image → Type 0) → GoesBy n P → HasBefore P a
      → ((before r : Image) → Picks a before → state_in r ≡ Some t → Agree n r (put a.sectors l.added before) → P r) → HasEach P a b
  marks_each P by images fresh = record {
    leaves = λ traced.
        leaves_weaker (λ c. LogsInside a.sectors c → ImageInCommit l.added a c) (λ c. IsInside a.sectors c → P (replayed a.sectors c))
        (λ c commits inside. moment c inside (commits (λ place i out. inside (log_slice place) i out)))
        (call.commit.stops traced call.ready call.decides);
    after = λ r left.
        let at = restated_after s t noted false view gone l on lost a b n r few call restates left in
        let read = stood_left t noted vals spent gone_now w b n left.0 after left.1 in
        fresh at.0 r at.1 (state_same r (replayed b.sectors left.0) (λ place. left.2 (log_slice place) 0) ∙ read.0) at.2;
  }
    where
      moment : (c : Image) → IsInside a.sectors c → ImageInCommit l.added a c → P (replayed a.sectors c)
      moment c inside commits =
          let before = commits.before in
          let picks = before_inside l.added a c before inside commits.stands commits.either in
          let r : Image = replayed a.sectors c in
          elim commits.either [
            | inl old ↦
                let e : Image = replayed a.sectors before in
                by r e (alike_state r e old) (alike_agree n r e few old) (images e (before, picks, λ d i. refl))
            | inr new ↦
                let e : Image = put a.sectors l.added before in
                fresh before r picks
                (alike_state r e new
                ∙ joined_state s t l.number gone on call.takes l.added a before call.place stood.log.logs stood.log.copies call.brings (stands_of before picks)
                (stood.log.few call.place call.was) (stood.log.there call.place call.was call.left) call.was call.left call.now)
                (alike_agree n r e few new)
          ]

  pub marks_rows : IsArray view → KeepsClear (v.arrays n) view → KeepsClear (v.arrays n) (w.arrays n) → LeavesRows v a n → KeepsRows v w a b n
  marks_rows is_array clear clear_after rows =
      rows_by v w a b n clear_after rows
      (marks_each (LeavesFrom (v.arrays n).resync n) (from_same (v.arrays n).resync n) rows.images
      (commit_rows t noted view (v.arrays n) l a n restates is_array clear rows.settled rows.young))

  -- and where a member is lacking, whatever the superblocks left before it
  pub marks_lacking : (v.arrays n).resync ≤ first_unsynced view.truth → KeepsClear (v.arrays n) (w.arrays n) → LeavesLacking v a n → KeepsLacking v w a b n
  marks_lacking low clear_after leaves =
      let row = (v.arrays n).resync in
      lacking_by v w a b n clear_after.resync clear_after.young leaves
      (marks_each (LackingFrom row n) (lacking_same row n) leaves.images
      (λ before r picks state agree. lacking_all row n r (commit_leaves t noted view row l a n restates low before r picks state agree)))
