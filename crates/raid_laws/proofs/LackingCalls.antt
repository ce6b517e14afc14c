-- A call of array m that goes by one shape of it: the rows that images leave to resync where a member of it is lacking.
use Rattle.std.proofs.Common.{◌≡◌, ℕ, ◌<◌, ◌≤◌, Bool, true, Some, subst, ◌∙◌}
use Rattle.rack.specs.Values.{Values}
use Rattle.rack.specs.Seen.{Image, RackView}
use Rattle.rack.specs.Joins.{leaves_weaker}
use Rattle.md_super.specs.declared.superblock.Super.{Super}
use Rattle.array_image.specs.Places.{log_slice}
use Rattle.array_image.specs.Arrays.{Shape, replayed, shape_in}
use Rattle.array_image.specs.Left.{IsInside}
use Rattle.array_image.specs.SoundArray.{first_unsynced}
use Rattle.array_image.specs.States.{state_in}
use Rattle.array_image.proofs.Frames.{state_same}
use Rattle.array_model.specs.View.{View, is_whole_array, shape_of}
use Rattle.array_model.specs.Says.{ArrayInvariant, ImageShowsArray}
use Rattle.array_model.specs.ArrayCalls.{ArrayCall, ImageInCall}
use Rattle.array_core.specs.TruthLeft.{HasTruthOf, LeavesTruth}
use Rattle.raid_laws.specs.Laws.{stood_left}
use Rattle.raid_laws.specs.Moves.{IsTrackedInCall, IsHeeded, IsSet}
use Rattle.raid_laws.specs.Raid.{Raid, gone_in}
use Rattle.raid_laws.specs.Rows.{KeepsLacking, LackingFrom, LeavesLacking}
use Rattle.raid_laws.proofs.Changed.{called}
use Rattle.raid_laws.proofs.EachImage.{HasBefore, HasEach, each_both, each_weaker}
use Rattle.raid_laws.proofs.LackingRows.{lacking_by, lacking_truth, lacking_whole}
use Rattle.raid_laws.proofs.Parts.{turned_state}
use Rattle.raid_laws.proofs.Whole.{heeded_gone}

module _ (v : Raid) (f : ℕ → View) (number m : ℕ) (a b : RackView) (vals now : ℕ → Values) (spent : ℕ → Bool) (set : IsSet v a) (heeded : IsHeeded v) (low : m < v.state.made)
    (amid : IsTrackedInCall v a m vals spent) (standing : IsTrackedInCall (called v f number) b m now spent)
    (acts : ArrayCall v.state (v.arrays m) (f m) spent a b (shape_of (v.arrays m)) vals (ImageShowsArray v.state (v.arrays m).number (shape_of (v.arrays m)) now spent) (shape_of (v.arrays m)) now) where
  abbrev Before : Type 0
  Before = ArrayInvariant v.state (shape_of (v.arrays m)) (v.arrays m) vals spent a

  abbrev During : Image → Type 0
  During r = ArrayInvariant v.state (shape_of (v.arrays m)) (v.arrays m) vals spent a → ImageShowsArray v.state (v.arrays m).number (shape_of (v.arrays m)) now spent r

  holds : ArrayInvariant v.state (shape_of (v.arrays m)) (v.arrays m) vals spent a
  holds = subst (λ (s : Shape). ArrayInvariant v.state s (v.arrays m) vals spent a) (amid.marked (λ p current. heeded_gone v heeded p)) amid.stood.holds

  number_is : (v.arrays m).number ≡ m
  number_is = (set.arrays m low).number

  -- images have the state and the shape, before it, meanwhile and after it
  abbrev HasShape : Image → Type 0
  HasShape r = (state_in r ≡ Some v.state) × (shape_in v.state r m ≡ Some (shape_of (v.arrays m)))

  shape_before : HasBefore HasShape a
  shape_before r left = (
    state_same r (replayed a.sectors left.0) (λ place. left.2 (log_slice place) 0)
        ∙ (stood_left v.state amid.durable vals spent (gone_in v) v a m left.0 amid.stood left.1).0,
    subst (λ k. shape_in v.state r k ≡ Some (shape_of (v.arrays m))) number_is (holds.shape.says r left).shape_is,
  )

  shape_each : HasEach HasShape a b
  shape_each = record {
    leaves = λ traced.
        leaves_weaker (λ c. IsInside a.sectors c → ImageInCall (v.arrays m).number a b During c) (λ c. IsInside a.sectors c → HasShape (replayed a.sectors c))
        (λ c turn inside.
        let turns = turn inside in (
          turned_state v.state amid.durable vals spent (gone_in v) v a b m (v.arrays m).number During c amid.stood turns,
          subst (λ k. shape_in v.state (replayed a.sectors c) k ≡ Some (shape_of (v.arrays m))) number_is (turns.own holds).shape_is,
        ))
        (acts.leaves traced);
    after = λ r left. (
      state_same r (replayed b.sectors left.0) (λ place. left.2 (log_slice place) 0)
          ∙ (stood_left v.state standing.durable now spent (gone_in (called v f number)) (called v f number) b m left.0 standing.stood left.1).0,
      subst (λ k. shape_in v.state r k ≡ Some (shape_of (v.arrays m))) standing.stood.number ((acts.holds holds).shape.says r left).shape_is,
    );
  }

  -- where it is whole, no member is lacking
  pub whole_lacking : is_whole_array (v.arrays m) ≡ true → LeavesLacking v a m → KeepsLacking v (called v f number) a b m
  whole_lacking whole leaves =
      let row = (v.arrays m).resync in
      lacking_by v (called v f number) a b m acts.noted.same.resync acts.noted.same.young leaves
      (each_weaker HasShape (LackingFrom row m) a b
      (λ r has. lacking_whole row m v.state (v.arrays m) r (set.arrays m low).is_array whole has.0 has.1) shape_each)

  -- where images have a truth from before or a new one, which leaves the rows that are left
  pub left_lacking : (new : Super → Type 0) → LeavesTruth v.state (v.arrays m).number new Before a b → ((t : Super) → new t → (v.arrays m).resync ≤ first_unsynced t)
      → LeavesLacking v a m → KeepsLacking v (called v f number) a b m
  left_lacking new truths fresh leaves =
      let row = (v.arrays m).resync in
      let Of : Image → Type 0 = HasTruthOf v.state m a new in
      lacking_by v (called v f number) a b m acts.noted.same.resync acts.noted.same.young leaves
      (each_weaker (λ r. HasShape r × HasTruthOf v.state m a new r) (LackingFrom row m) a b
      (λ r has. lacking_truth row m v.state (shape_of (v.arrays m)) a new r has.0.0 has.0.1 shape_before leaves.images fresh has.1)
      (each_both HasShape Of a b shape_each
      (subst (λ k. HasEach (HasTruthOf v.state k a new) a b) number_is
      (record {
        leaves = λ traced.
            leaves_weaker (λ c. IsInside a.sectors c → Before → HasTruthOf v.state (v.arrays m).number a new (replayed a.sectors c))
            (λ c. IsInside a.sectors c → HasTruthOf v.state (v.arrays m).number a new (replayed a.sectors c))
            (λ c has inside. has inside holds) (truths.leaves traced);
        after = λ r left. truths.after holds r left;
      }))))
