-- The commit that marks losses, seen from one array that stands.
use Rattle.std.proofs.Common.{◌≡◌, ℕ, ◌-◌, ◌^◌, ◌<◌, Bool, true, false, ◌||◌, not, List, Some, refl, sym, ap, subst, ◌∙◌, arith}
use Rattle.std.proofs.lemmas.Bool.{both_ways, and_from}
use Rattle.rack.specs.Values.{Values}
use Rattle.rack.specs.Seen.{Image, RackView}
use Rattle.rack.specs.Targets.{Target, put}
use Rattle.array_image.specs.States.{is_current}
use Rattle.md_super.specs.declared.superblock.Super.{Super}
use Rattle.array_image.specs.Supers.{truth_in}
use Rattle.array_image.proofs.Frames.{supers_same, truth_by_supers}
use Rattle.array_image.specs.Held.{IsSynced, current_in}
use Rattle.array_image.specs.Marks.{lowered}
use Rattle.array_image.specs.Left.{IsLeft}
use Rattle.log_laws.specs.View.{LogView, names, next_number}
use Rattle.log_laws.specs.Kept.{LogInvariant, AreLeft, CarriesState, gone_with}
use Rattle.log_laws.proofs.KeptAfter.{on_left}
use Rattle.log_laws.proofs.Kept.{brings_to, kept_ready, kept_decides}
use Rattle.array_model.specs.View.{View, may_vary, shape_of}
use Rattle.array_model.specs.ArrayCalls.{IncludesSpent}
use Rattle.array_model.proofs.Losses.{IsLosing, data_of}
use Rattle.array_model.proofs.Spared.{lost_value}
use Rattle.array_model.proofs.Noting.{laid_out, unspent_then}
use Rattle.raid_laws.specs.Raid.{Raid, gone_in, is_left, is_failed}
use Rattle.raid_laws.specs.Losses.{AddsCopies}
use Rattle.array_model.specs.Says.{ShapeInvariant}
use Rattle.raid_laws.specs.Rows.{KeepsLacking, KeepsRows, LeavesLacking, LeavesRows}
use Rattle.raid_laws.proofs.MarkedRows.{marks_lacking, marks_rows}
use Rattle.raid_laws.proofs.Rows.{clear_same}
use Rattle.raid_laws.specs.Marking.{Restates, Part}
use Rattle.raid_laws.specs.Reach.{reach_fewer}
use Rattle.raid_laws.specs.Moves.{IsSeated, IsTrackedInCall, SubCall}
use Rattle.raid_laws.specs.Settling.{state_after}
use Rattle.raid_laws.specs.Agreeing.{SupersAgree}
use Rattle.raid_laws.proofs.Agreed.{agree_by, staged_agrees}
use Rattle.raid_laws.proofs.Added.{marks_bring}
use Rattle.raid_laws.proofs.Brought.{copies_own}
use Rattle.raid_laws.proofs.Marking.{MarksCall, restated_after, NotesLost, marks_part, shape_after}
use Rattle.raid_laws.proofs.Restated.{IsStaged, restates_staged}
use Rattle.raid_laws.proofs.Staged.{none_gone, notes_lost, staged_array}
use Rattle.raid_laws.proofs.Over.{someone_left, member_left, number_room}
use Rattle.raid_laws.proofs.Losing.{only_gone}
use Rattle.raid_laws.proofs.Noted.{left_reach, noted_clear}
use Rattle.raid_laws.proofs.Changed.{PartAmid, lowered_none, part_if}
use Rattle.raid_laws.proofs.Adding.{current_is, on_current, was_current, no_data, all_live, supers_calm, supers_inside}
use Rattle.raid_laws.proofs.Committed.{IsCommit, raid_after, after_further, after_marked, after_gone, after_set, commit_losing, raised_more, raised_range, next_later}

module _ (v : Raid) (lost on gone : List ℕ) (l : LogView) (xs : List Target) (f : ℕ → View) (b c : RackView) (commit : IsCommit v lost on gone l xs f b c)
    (n : ℕ) (vals : ℕ → Values) (spent : ℕ → Bool) (joined : n < v.state.joined) (low : n < v.state.made)
    (goes : is_failed (raid_after v lost (next_number l.number) f) n ≡ false) (covers : IncludesSpent (f n) spent)
    (amid : IsTrackedInCall v b n vals spent) (settled : IsSynced (shape_of (v.arrays n)) n b.held) where
  small : n < 16
  small = let most = commit.marking.set.most in omega (arith, low, most)

  seated : IsSeated v.state n (v.arrays n) b
  seated = commit.marking.set.arrays n low

  -- a place that is left after it
  someone : (place : ℕ) × (is_current (state_after v lost) place ≡ true) × (gone_in (raid_after v lost (next_number l.number) f) place ≡ false)
  someone = someone_left (raid_after v lost (next_number l.number) f) n goes

  or_none : (x y : Bool) → (x || y) ≡ false → (x ≡ false) × (y ≡ false)
  or_none true y is = absurd (both_ways true is refl)
  or_none false y is = (refl, is)

  left_both : (gone_in v someone.0 ≡ false) × (names gone someone.0 ≡ false)
  left_both = or_none (gone_in v someone.0) (names gone someone.0) (sym (after_gone v lost on gone l xs f b c commit n someone.0 low) ∙ someone.2)

  was_one : is_current v.state someone.0 ≡ true
  was_one = was_current v lost on l xs b commit.marking someone.0 someone.1

  room : (l.number < 2 ^ 63 - 1) × (v.state.epoch < 2 ^ 63 - 1)
  room =
      let ends = number_room (raid_after v lost (next_number l.number) f) n goes in
      let number = ends.0 in
      let epoch = ends.1 in
      let more = next_later l.number in
      let up = (raised_range v.state.epoch).0 in
      (omega (arith, number, more), omega (arith, epoch, up))

  brings : CarriesState v.state (state_after v lost) l.added on
  brings =
      subst (CarriesState v.state (state_after v lost) l.added) (sym commit.marking.on_is)
      (marks_bring v.state lost xs l.added room.1
      (subst (λ ps. AddsCopies (state_after v lost) ps xs l.added) commit.marking.on_is commit.marking.copies)
      (supers_inside v lost on l xs b commit.marking) (supers_calm v lost on l xs b commit.marking))

  kept : LogInvariant v.state l.number (gone_in v) b
  kept = subst (λ k. LogInvariant v.state k (gone_in v) b) (sym commit.marking.number) amid.stood.log

  are_left : AreLeft v.state (gone_in v) on
  are_left q = on_current v lost on l xs b commit.marking q ∙ current_is v lost on l xs b commit.marking q

  marks_call : MarksCall v.state (state_after v lost) (gone_in v) l on gone b c
  marks_call = record {
    commit = commit.call;
    takes = on;
    brings = brings_to v.state (state_after v lost) l.number b l.added on brings;
    are_left = are_left;
    none = no_data v lost on l xs b commit.marking;
    ready = kept_ready v.state (state_after v lost) (gone_in v) l on b someone.0 kept brings room.0 commit.marking.set.lasting
        (all_live v lost on l xs b commit.marking amid.slices kept.logs) was_one left_both.0;
    decides = kept_decides v.state (state_after v lost) l.number (gone_in v) l.added on gone b someone.0 kept brings are_left
        (and_from (names on someone.0) (not (names gone someone.0)) (on_current v lost on l xs b commit.marking someone.0 ∙ someone.1) (ap not left_both.1))
        someone.1;
    place = someone.0;
    was = was_one;
    left = left_both.0;
    now = someone.1;
    stays = left_both.1;
    later = raised_more v.state.epoch room.1;
    own = copies_own (state_after v lost) on xs l.added commit.marking.copies (supers_calm v lost on l xs b commit.marking);
  }

  fresh : (p : ℕ) → names marks_call.takes p ≡ true → gone_in v p ≡ false
  unfolding marks_call
  fresh p named = on_left v.state (gone_in v) on p are_left named

  losing : IsLosing (v.arrays n) (f n) (names gone)
  losing = commit_losing v lost on gone l xs f b c commit n low

  staged : IsStaged v.state (state_after v lost) (gone_in v) (v.arrays n) l.added b n
  staged =
      staged_array v lost on l xs b commit.marking n low
      (let some = member_left (raid_after v lost (next_number l.number) f) n goes in
      let fewer = (after_further v lost on gone l xs f b c commit).seats n low in omega (arith, some, fewer))
      amid.stood.written settled

  restates : Restates (state_after v lost) (shape_of (v.arrays n)) false (v.arrays n) l.added b n
  restates = restates_staged v.state (state_after v lost) amid.durable vals spent (gone_in v) v l.added b n staged amid.stood

  holds : ShapeInvariant v.state n amid.durable (shape_of (v.arrays n)) (v.arrays n).resync (may_vary (v.arrays n)) vals spent b
  holds = subst (λ k. ShapeInvariant v.state k amid.durable (shape_of (v.arrays n)) (v.arrays n).resync (may_vary (v.arrays n)) vals spent b)
      seated.number amid.stood.holds.shape

  notes : NotesLost (f n) (shape_of (v.arrays n)) (v.arrays n).resync false (v.arrays n) gone n
  notes = notes_lost v lost on gone l xs f b c commit n low amid.stood.written

  part : Part v.state (state_after v lost) amid.durable (shape_of (v.arrays n)) vals vals spent (gone_in v) (gone_with (gone_in v) gone) v
      (raid_after v lost (next_number l.number) f) b c n
  part =
      let now = shape_after v.state (state_after v lost) (shape_of (v.arrays n)) (v.arrays n).resync false (may_vary (v.arrays n)) (v.arrays n) vals spent (gone_in v) l on gone b c n small marks_call restates settled (data_of holds) in
      marks_part v.state (state_after v lost) amid.durable (shape_of (v.arrays n)) (may_vary (v.arrays n)) false (v.arrays n) vals spent (gone_in v) v (raid_after v lost (next_number l.number) f) l on gone b c n
      small (after_marked lost v.state) commit.marking.number refl joined amid.stood.few marks_call restates settled holds notes refl fresh
      (reach_fewer (is_left v) (is_current (state_after v lost)) amid.durable (shape_of (v.arrays n)) (λ p is. sym (current_is v lost on l xs b commit.marking p) ∙ is) amid.noted)
      (λ y alive.
      lost_value (names gone) (shape_of (v.arrays n)) n (v.arrays n).resync (current_in c.held) y (laid_out (v.arrays n) seated.is_array) now.even now.sized
      (unspent_then (v.arrays n) (f n) (names gone) losing y (covers y alive)))

  -- so the commit leaves the rows that are left
  pub commit_rows : LeavesRows v b n → KeepsRows v (raid_after v lost (next_number l.number) f) b c n
  commit_rows rows =
      marks_rows v.state (state_after v lost) amid.durable (shape_of (v.arrays n)) (v.arrays n) vals spent (gone_in v) v (raid_after v lost (next_number l.number) f) l on gone b c n
      small marks_call restates amid.stood (gone_with (gone_in v) gone) (part.holds amid.stood) seated.is_array (clear_same (v.arrays n) (v.arrays n) refl) (noted_clear gone (v.arrays n) (f n) (commit.arrays n low))
      rows

  -- and so it does where a member is lacking, since the array is settled by it
  pub commit_lacking : LeavesLacking v b n → KeepsLacking v (raid_after v lost (next_number l.number) f) b c n
  commit_lacking leaves =
      let rows = (commit.marking.staged.each n low).unmarked.rows leaves.young in
      marks_lacking v.state (state_after v lost) amid.durable (shape_of (v.arrays n)) (v.arrays n) vals spent (gone_in v) v (raid_after v lost (next_number l.number) f) l on gone b c n
      small marks_call restates amid.stood (gone_with (gone_in v) gone) (part.holds amid.stood) (omega (arith, rows))
      (noted_clear gone (v.arrays n) (f n) (commit.arrays n low)) leaves

  -- whoever is left has the array's superblock, so they agree
  pub commit_agrees : (r : Image) → IsLeft c r → SupersAgree (state_after v lost) r n
  commit_agrees r left =
      let at = restated_after v.state (state_after v lost) (shape_of (v.arrays n)) false (v.arrays n) (gone_in v) l on gone b c n r small marks_call restates left in
      agree_by (state_after v lost) r (put b.sectors l.added at.0) n at.2
      (staged_agrees v.state (state_after v lost) (gone_in v) (v.arrays n) l.added b n at.0 staged (restates.alone at.0 at.1))

  -- and leave the rows to resync that its truth does
  pub commit_left : (r : Image) → IsLeft c r → (u : Super) → truth_in (state_after v lost) r n ≡ Some u → u.resync_offset ≡ (v.arrays n).truth.resync_offset
  commit_left r left u truth =
      let at = restated_after v.state (state_after v lost) (shape_of (v.arrays n)) false (v.arrays n) (gone_in v) l on gone b c n r small marks_call restates left in
      let e : Image = put b.sectors l.added at.0 in
      ap (λ (z : Super). z.resync_offset)
      (restates.truth at.0 at.1 u (sym (truth_by_supers (state_after v lost) r e n (supers_same (state_after v lost) r e n at.2)) ∙ truth))

  commit_amid : PartAmid v (raid_after v lost (next_number l.number) f) b c n vals vals spent amid.durable
  commit_amid = record {
    after = shape_of (v.arrays n);
    part = subst (λ g. Part v.state (state_after v lost) amid.durable (shape_of (v.arrays n)) vals vals spent (gone_in v) g v (raid_after v lost (next_number l.number) f) b c n)
        (λ i q. sym (after_gone v lost on gone l xs f b c commit n q low) i) part;
    marked = λ are.
        let same : names gone ≡ (λ q. false) = λ i q. none_gone v lost on gone l xs f b c commit n low are q i in
        sym (losing.shape ∙ ap (λ g. lowered g (shape_of (v.arrays n))) same ∙ lowered_none (shape_of (v.arrays n)));
    noted =
        left_reach (raid_after v lost (next_number l.number) f) n (v.arrays n) c low ((after_set v lost on gone l xs f b c commit).arrays n low)
        (only_gone (v.arrays n) (f n) gone seated.is_array (commit.arrays n low));
  }

pub commit_part : (v : Raid) (lost on gone : List ℕ) (l : LogView) (xs : List Target) (f : ℕ → View) (b c : RackView) → IsCommit v lost on gone l xs f b c
    → (n : ℕ) (vals : ℕ → Values) (spent : ℕ → Bool) → n < v.state.joined → n < v.state.made → is_failed (raid_after v lost (next_number l.number) f) n ≡ false
    → IncludesSpent (f n) spent → IsSynced (shape_of (v.arrays n)) n b.held → SubCall v (raid_after v lost (next_number l.number) f) b c n vals vals spent
commit_part v lost on gone l xs f b c commit n vals spent joined low goes covers settled =
    part_if v (raid_after v lost (next_number l.number) f) b c n vals vals spent commit.call.stays commit.marking.set.lasting commit.call.leaves
    (λ amid. commit_amid v lost on gone l xs f b c commit n vals spent joined low goes covers amid settled)
