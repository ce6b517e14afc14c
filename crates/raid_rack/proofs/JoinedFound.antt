-- The commit that makes a new drive one of the pool, seen from an array that it finds over slices that have the drive already, whatever images say of the array by
-- these: contents are as before it, or they say the array by a state that has the drive, and it stands after it.
use Rattle.std.proofs.Common.{◌≡◌, ◌≢◌, ◌⊎◌, ℕ, ◌+◌, ◌-◌, ◌≤◌, ◌<◌, ◌^◌, if◌then◌else◌, Bool, true, false, List, [], Some, option_map, sym, ap, subst, ◌∙◌, inl, inr, lt-ltb, arith}
use Rattle.std.specs.Option.{option_map_or}
use Rattle.rack.specs.Values.{Values}
use Rattle.rack.specs.Seen.{Image, RackView}
use Rattle.rack.specs.Joins.{leaves_then, leaves_weaker}
use Rattle.rack.specs.Moments.{Leaves}
use Rattle.rack.specs.Targets.{Target, look, put}
use Rattle.pool_state.specs.declared.contents.Drive.{Drive}
use Rattle.pool_state.specs.declared.contents.Plan.{Plan}
use Rattle.pool_state.specs.declared.contents.State.{State}
use Rattle.array_image.specs.Arrays.{replayed}
use Rattle.array_image.specs.Left.{IsInside, LogsInside, Picks}
use Rattle.array_image.specs.Places.{log_slice}
use Rattle.array_image.specs.Record.{GateAt, pending_at}
use Rattle.array_image.specs.States.{current_places, is_current, state_in, id_of}
use Rattle.array_image.proofs.Frames.{state_same}
use Rattle.array_image.proofs.Replays.{replayed_as_is}
use Rattle.array_core.specs.Superblocks.{is_settled}
use Rattle.array_model.specs.View.{View, shape_of}
use Rattle.array_model.specs.ArrayCalls.{IncludesSpent}
use Rattle.log_laws.specs.Commits.{ImageInCommit, StandsMidway}
use Rattle.log_laws.specs.Kept.{LogInvariant, gone_but}
use Rattle.log_laws.specs.Saying.{HoldsCopies}
use Rattle.log_laws.specs.Standing.{IsAlike}
use Rattle.log_laws.specs.View.{LogView, names, next_number}
use Rattle.commit_log.proofs.Amid.{same_replayed}
use Rattle.log_laws.proofs.Kept.{before_inside, kept_replayed}
use Rattle.commit_log.proofs.Replaced.{replaced_says}
use Rattle.commit_log.proofs.Saying.{commit_moments, midway_replaced, midway_yet}
use Rattle.raid_laws.specs.Book.{OnlyMarksSince, after_same}
use Rattle.raid_laws.specs.Enlisting.{FindsPart, IsNewLog, SaysBy, SaysLatter, StandsYet, enlisted, next_drive}
use Rattle.raid_laws.specs.Frames.{Frame, HasFrame, frame_of}
use Rattle.raid_laws.specs.Laws.{stood_left}
use Rattle.raid_laws.specs.Logs.{KeepsLogs, LogsBetween, StandsSince}
use Rattle.raid_laws.specs.Losses.{has_other}
use Rattle.raid_laws.specs.Marking.{Restates, SaysBetween}
use Rattle.raid_laws.specs.Moves.{IsTrackedInCall, Mends, SubCall}
use Rattle.raid_laws.specs.Raid.{Raid, InvariantInCall, is_failed}
use Rattle.raid_laws.specs.Rows.{LeavesFrom, LeavesRows}
use Rattle.raid_laws.specs.Settling.{state_after}
use Rattle.raid_laws.specs.Since.{HoldsTakenSince, IsTakenSince, KeepsTakenSince, each_then}
use Rattle.raid_laws.specs.Vacated.{FindsArray, IsFormerly}
use Rattle.raid_laws.proofs.Moving.{part_says}
use Rattle.raid_laws.proofs.Committed.{IsCommitBy, raid_after}
use Rattle.raid_laws.proofs.Each.{get_set_other}
use Rattle.raid_rack.proofs.Enlisted.{enlisted_marked}
use Rattle.raid_laws.proofs.Frames.{fields_frame, known_frame}
use Rattle.raid_rack.proofs.Joined.{amid_after, call_away, joined_new, joins_log, kept, marks_call, notes, on_current, restates, stood_after}
use Rattle.raid_rack.proofs.Joining.{MayJoinPool, listed_raid}
use Rattle.raid_laws.proofs.Leaving.{leaves_both, leaves_where}
use Rattle.raid_laws.proofs.Logs.{stands_same}
use Rattle.raid_laws.proofs.MarkedRows.{commit_rows}
use Rattle.raid_laws.proofs.Marking.{MarksCall, alike_agree, alike_state, brings_joining, commit_each, copies_made, midway_stands, never_same, restated_after, says_first}
use Rattle.raid_laws.proofs.Noted.{noted_clear}
use Rattle.raid_laws.proofs.Own.{look_nothing}
use Rattle.raid_rack.proofs.Renewed.{renewed_clear, renewed_truth}
use Rattle.raid_laws.proofs.Rows.{KeepsClear}

module _ (place units : ℕ) (plan : Plan) (joining : ℕ → Bool) (v : Raid) (on takes gone : List ℕ) (l : LogView) (xs : List Target) (f : ℕ → View) (x y : RackView)
    (may : MayJoinPool place units plan joining v x) (commit : IsCommitBy (listed_raid place units plan joining v) [] takes on gone l xs f x y)
    (w : Raid) (z : RackView) (mends : Mends (raid_after (listed_raid place units plan joining v) [] (next_number l.number) f) w y z)
    (on_are : on ≡ current_places v.state) (new_log : IsNewLog place x) (other : has_other w.state place ≡ true)
    (n : ℕ) (vals : ℕ → Values) (spent : ℕ → Bool) (joined : n < v.state.joined) (low : n < v.state.made)
    (goes : is_failed w n ≡ false) (covers : IncludesSpent (w.arrays n) spent)
    (s : State) (before : ℕ → Bool) (finds : FindsArray s before place v x n vals spent) where
  abbrev u : Raid
  u = listed_raid place units plan joining v

  abbrev t : State
  t = state_after (listed_raid place units plan joining v) []

  abbrev m : Raid
  m = raid_after (listed_raid place units plan joining v) [] (next_number l.number) f

  abbrev next : State
  next = enlisted place units plan v.state

  abbrev g : Frame
  g = frame_of (v.arrays n).truth

  small : n < 16
  small = let most = may.set.most in omega (arith, low, most)

  -- ---- what is known of the commit

  call : MarksCall s t before l on gone x y
  call = marks_call place units plan joining v on takes gone l xs f x y may commit w z mends on_are new_log other n vals spent joined low goes covers s before finds

  away : call.place ≢ place
  unfolding call
  away = call_away place units plan joining v on takes gone l xs f x y may commit w z mends on_are new_log other n vals spent joined low goes covers s before finds

  as_kept : LogInvariant s l.number before x
  as_kept = kept place units plan joining v on takes gone l xs f x y may commit w z mends on_are new_log other n vals spent joined low goes covers s before finds

  restated : Restates t (shape_of (u.arrays n)) false (u.arrays n) l.added x n
  restated = restates place units plan joining v on takes gone l xs f x y may commit w z mends on_are new_log other n vals spent joined low goes covers s before finds

  stood : InvariantInCall t (shape_of (u.arrays n)) vals spent (gone_but before takes gone) m y n
  stood = stood_after place units plan joining v on takes gone l xs f x y may commit w z mends on_are new_log other n vals spent joined low goes covers s before finds

  after : IsTrackedInCall m y n vals spent
  after = amid_after place units plan joining v on takes gone l xs f x y may commit w z mends on_are new_log other n vals spent joined low goes covers s before finds

  later : SubCall m w y z n vals vals spent
  later = mends.moves.parts n vals spent joined low goes covers

  truth_same : (u.arrays n).truth ≡ (v.arrays n).truth
  truth_same = renewed_truth (joining n) place (next_drive v.state) (v.arrays n)

  off : names on place ≡ false
  off =
      on_current place units plan joining v on takes gone l xs f x y may commit w z mends on_are new_log other n vals spent joined low goes covers s before finds place
      ∙ may.missing

  other_ids : (p : ℕ) → p ≢ place → is_current s p ≡ true → is_current t p ≡ true → id_of t p ≡ id_of s p
  other_ids p apart was now =
      let new : Drive = record { id = next_drive v.state; units = units; missing = false } in
      sym (ap (λ (q : State). id_of q p) (enlisted_marked place units plan v.state))
      ∙ ap (option_map (λ (d : Drive). d.id.0)) (get_set_other v.state.drives.items place p new apart) ∙ sym (finds.ids p apart)

  -- ---- at a moment of it

  module _ (c : Image) (inside : IsInside x.sectors c) (commits : ImageInCommit l.added x c) (mid : StandsMidway l on x c) where
    picks : Picks x commits.before
    picks = before_inside l.added x c commits.before inside commits.stands commits.either

    formerly : IsAlike (replayed x.sectors c) (replayed x.sectors commits.before) → IsFormerly place x c
    formerly old =
        let whole = commits.whole (as_kept.whole commits.before commits.stands) in
        record {
          before = commits.before;
          picks = picks;
          alike = old;
          yet =
              midway_yet s t before l on call.takes x as_kept call.brings call.own (never_same s t before call.later) call.are_left call.ready.room call.place call.was call.left call.now
              c mid call.later whole
              (alike_state (replayed x.sectors c) (replayed x.sectors commits.before) old
              ∙ kept_replayed s l.number before x commits.before call.place as_kept commits.stands call.was call.left);
          whole = whole;
          gate = λ live. mid.gates place off live;
        }

    module _ (new : IsAlike (replayed x.sectors c) (put x.sectors l.added commits.before)) where
      r : Image
      r = replayed x.sectors c

      says : SaysBy t n vals spent (replayed x.sectors c)
      says =
          joined_new place units plan joining v on takes gone l xs f x y may commit w z mends on_are new_log other n vals spent joined low goes covers s before finds
          c commits.before picks new

      logs : LogsBetween t w.state x.sectors c
      logs =
          elim (midway_replaced s t before l on call.takes x as_kept call.brings call.own (never_same s t before call.later) call.are_left call.ready.room call.place call.was call.left
          call.now c mid place away off
          (joins_log place units plan joining v on takes gone l xs f x y may commit w z mends on_are new_log other n vals spent joined low goes covers s before finds)
          call.later (sym finds.pool) other_ids commits (λ d i value is. (call.ready.targets d i value is).sector)) [
            | inl old ↦
                let same : s.epoch ≡ t.epoch = ap (λ o. option_map_or (λ (q : State). q.epoch) o 0) (sym old ∙ says.is_state) in
                let up = call.later in
                absurd (omega (arith, same, up))
            | inr (inl done) ↦ record { state = t; later = after_same t; sooner = mends.moves.book; says = done }
            | inr (inr brought) ↦
                record { state = t; later = after_same t; sooner = mends.moves.book; says = replaced_says place s t x.sectors c brought }
          ]

      -- as they stand they say it too, or the state before, and then the record is pending
      stands : (stood : State) → state_in c ≡ Some stood → OnlyMarksSince t stood ⊎ StandsYet s t v.number x.sectors c stood
      stands stood at = elim (midway_stands s t before l on gone x y call as_kept c mid) [
        | inr now ↦ inl (stands_same t c now stood at)
        | inl yet ↦
            inr (record {
              before = some_state stood s (sym at ∙ yet);
              brings = says.is_state;
              later = λ gate is. subst (λ k. k < gate.gate.number) commit.marking.number (later_number yet gate is);
            })
      ]
        where
          some_state : (a b : State) → Some a ≡ Some b → a ≡ b
          some_state a b same = cc

          not_old : state_in (replayed x.sectors c) ≡ Some s → ⊥
          not_old old =
              let same : s.epoch ≡ t.epoch = ap (λ o. option_map_or (λ (q : State). q.epoch) o 0) (sym old ∙ says.is_state) in
              let up = call.later in
              omega (arith, same, up)

          next_is : next_number l.number ≡ l.number + 1
          next_is = ap (λ (b : Bool). if b then l.number + 1 else l.number) (lt-ltb l.number (2 ^ 63 - 1) call.ready.room)

          later_number : state_in c ≡ Some s → (gate : GateAt) → pending_at (current_places s) c ≡ Some gate → l.number < gate.gate.number
          later_number yet gate is = elim mid.pends [
            | inl old ↦
                absurd (not_old
                (state_same (replayed x.sectors c) (replayed x.sectors old.before) (λ p. same_replayed x c old.before (log_slice p) 0 old.same (old.copies p))
                ∙ kept_replayed s l.number before x old.before call.place as_kept old.stands call.was call.left))
            | inr (inl pends) ↦
                let number = (pends.source gate (ap (λ o. pending_at (option_map_or current_places o []) c) yet ∙ is)).1 in
                let up = next_is in
                omega (arith, number, up)
            | inr (inr done) ↦
                absurd (not_old
                (state_same (replayed x.sectors c) c
                (λ p. replayed_as_is x.sectors c (log_slice p) 0 (ap (λ (xs : List Target). look xs (log_slice p) 0) done.0 ∙ look_nothing (log_slice p) 0))
                ∙ yet))
          ]

      latter : SaysLatter s t v.number w n vals spent g x.sectors c
      latter = record {
        says = says_first t w.state n vals spent (replayed x.sectors c) mends.moves.book says;
        logs = logs;
        stands = stands;
        frame = known_frame g n t (replayed x.sectors c) (put x.sectors l.added commits.before) says.is_state
            (alike_agree n (replayed x.sectors c) (put x.sectors l.added commits.before) small new)
            (λ q truth. fields_frame q (u.arrays n).truth (restated.truth commits.before picks q truth) ∙ ap frame_of truth_same);
      }

      rows_new : is_settled (v.arrays n) ≡ true → (v.arrays n).young ≡ false → LeavesFrom (v.arrays n).resync n (replayed x.sectors c)
      rows_new settled young =
          commit_rows t (shape_of (u.arrays n)) (u.arrays n) (v.arrays n) l x n restated (commit.marking.set.arrays n low).is_array
          (renewed_clear (joining n) place (next_drive v.state) (v.arrays n)) settled young commits.before (replayed x.sectors c) picks says.is_state
          (alike_agree n (replayed x.sectors c) (put x.sectors l.added commits.before) small new)

  -- ---- after it

  copies : HoldsCopies t y
  copies = copies_made s t before l on gone x y call as_kept

  later_logs : KeepsLogs t w.state y z
  later_logs = later.logs copies after

  clear : KeepsClear (v.arrays n) (f n)
  clear =
      let first = renewed_clear (joining n) place (next_drive v.state) (v.arrays n) in
      let second = noted_clear gone (u.arrays n) (f n) (commit.arrays n low) in
      record {
        resync = second.resync ∙ first.resync;
        young = second.young ∙ first.young;
        settled = λ young is. second.settled (first.young ∙ young) (first.settled young is);
      }

  rows_then : is_settled (v.arrays n) ≡ true → (v.arrays n).young ≡ false → LeavesRows m y n
  rows_then settled young = record {
    settled = clear.settled young settled;
    young = clear.young ∙ young;
    images = λ r left.
        subst (λ k. LeavesFrom k n r) (sym clear.resync)
        (let at = restated_after s t (shape_of (u.arrays n)) false (u.arrays n) before l on gone x y n r small call restated left in
        let read = stood_left t (shape_of (u.arrays n)) vals spent (gone_but before takes gone) m y n left.0 stood left.1 in
        commit_rows t (shape_of (u.arrays n)) (u.arrays n) (v.arrays n) l x n restated (commit.marking.set.arrays n low).is_array
        (renewed_clear (joining n) place (next_drive v.state) (v.arrays n)) settled young at.0 r at.1
        (state_same r (replayed y.sectors left.0) (λ p. left.2 (log_slice p) 0) ∙ read.0) at.2);
  }

  framed : frame_of (f n).truth ≡ g
  framed =
      let noted = notes place units plan joining v on takes gone l xs f x y may commit w z mends on_are new_log other n vals spent joined low goes covers s before finds in
      ap frame_of noted.truth ∙ ap frame_of truth_same

  -- ---- the whole

  abbrev Leaves_now : State → Image → Type 0
  Leaves_now q c = IsInside x.sectors c
      → IsFormerly place x c
      ⊎ (SaysLatter s q v.number w n vals spent g x.sectors c × (is_settled (v.arrays n) ≡ true → (v.arrays n).young ≡ false → LeavesFrom (v.arrays n).resync n (replayed x.sectors c)))

  moments : x.traced → Leaves x z (λ c. Leaves_now t c)
  moments traced =
      let Clean : Type 0 = (is_settled (v.arrays n) ≡ true) × ((v.arrays n).young ≡ false) in
      let Said : Image → Type 0 = λ c. IsInside y.sectors c → IsTrackedInCall m y n vals spent → SaysBetween t w.state n vals spent (replayed y.sectors c) in
      let Logs : Image → Type 0 = λ c. IsInside y.sectors c → LogsBetween t w.state y.sectors c in
      let Stands_now : Image → Type 0 = λ c. IsInside y.sectors c → StandsSince t c in
      let Framed : Image → Type 0 = λ c. IsInside y.sectors c → HasFrame g n (replayed y.sectors c) in
      let Rows : Image → Type 0 = λ c. IsInside y.sectors c → LeavesFrom (f n).resync n (replayed y.sectors c) in
      leaves_then (λ c. Leaves_now t c)
      (leaves_weaker (λ c. LogsInside x.sectors c → ImageInCommit l.added x c × StandsMidway l on x c) (λ c. Leaves_now t c)
      (λ c found inside.
      let both = found (λ p i out. inside (log_slice p) i out) in
      elim both.0.either [
        | inl old ↦ inl (formerly c inside both.0 both.1 old)
        | inr new ↦ inr (latter c inside both.0 both.1 new, rows_new c inside both.0 both.1 new)
      ])
      (commit_moments l on gone x y commit.call traced call.ready call.decides))
      (leaves_weaker (λ c. Framed c × (Logs c × (Stands_now c × (Said c × (Clean → Rows c))))) (λ c. Leaves_now t c)
      (λ c at inside.
      let inside_y : IsInside y.sectors c = λ d i out. inside d i (subst (λ k. k ≤ i) (commit.call.stays.sectors d) out) in
      let same : (λ (d : ℕ). y.sectors d) ≡ (λ (d : ℕ). x.sectors d) = λ k d. commit.call.stays.sectors d k in
      inr (
        record {
          says = subst (λ (sectors : ℕ → ℕ). SaysBetween t w.state n vals spent (replayed sectors c)) same (at.1.1.1.0 inside_y after);
          logs = subst (λ (sectors : ℕ → ℕ). LogsBetween t w.state sectors c) same (at.1.0 inside_y);
          stands = λ stood is. inl (at.1.1.0 inside_y stood is);
          frame = subst (λ (sectors : ℕ → ℕ). HasFrame g n (replayed sectors c)) same (at.0 inside_y);
        },
        λ settled young.
            subst (λ (sectors : ℕ → ℕ). LeavesFrom (v.arrays n).resync n (replayed sectors c)) same
            (subst (λ k. LeavesFrom k n (replayed y.sectors c)) clear.resync (at.1.1.1.1 (settled, young) inside_y)),
      ))
      (let told = commit.call.stays.traced traced in
      leaves_both Framed (λ c. Logs c × (Stands_now c × (Said c × (Clean → Rows c)))) ((later.frame g framed after).leaves told)
      (leaves_both Logs (λ c. Stands_now c × (Said c × (Clean → Rows c))) (later_logs.leaves told)
      (leaves_both Stands_now (λ c. Said c × (Clean → Rows c)) (later_logs.stands told)
      (leaves_where Said Rows Clean (part_says m w y z n vals vals spent later told)
      (λ clean. (mends.moves.rows n vals spent joined low goes covers after (rows_then clean.0 clean.1)).leaves told))))))

  since_then : (new : ℕ → Bool) → HoldsTakenSince new s t x → KeepsTakenSince new s t x z
  since_then new held =
      let first : KeepsTakenSince new s t x y = commit_each (IsTakenSince new s t) s t before l on gone x y call (brings_joining new s t t (after_same t)) as_kept.logs held in
      each_then (IsTakenSince new s t) x y z commit.call.stays.sectors commit.call.stays.traced first (later_logs.joining new s t (after_same t) first.holds)

  pub found_part : FindsPart place units plan s v w x z n vals spent
  found_part = record {
    leaves = λ traced. subst (λ (q : State). Leaves x z (λ c. Leaves_now q c)) (sym (enlisted_marked place units plan v.state)) (moments traced);
    since = λ new. subst (λ (q : State). HoldsTakenSince new s q x → KeepsTakenSince new s q x z) (sym (enlisted_marked place units plan v.state)) (since_then new);
    holds = later.holds after;
    rows = λ settled young.
        let keeps = mends.moves.rows n vals spent joined low goes covers after (rows_then settled young) in
        (subst (λ k. k ≤ (w.arrays n).resync) clear.resync keeps.later, keeps.after);
    frame = (later.frame g framed after).after;
  }
