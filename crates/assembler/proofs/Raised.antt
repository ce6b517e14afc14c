-- How far an opening raises the numbers that end.
use Rattle.std.proofs.Common.{◌≡◌, ℕ, ◌+◌, ◌*◌, ◌<◌, ◌≤◌, List, length, slice_get, Some, sym, ap, subst, ◌∙◌, arith}
use Rattle.std.proofs.lemmas.Option.{slice_get_within}
use Rattle.rack.specs.Several.{Several}
use Rattle.md_super.specs.declared.superblock.Super.{Super}
use Rattle.pool_state.specs.declared.contents.State.{State}
use Rattle.array_model.specs.View.{View}
use Rattle.array_core.specs.Seats.{gone, restarted}
use Rattle.array_core.proofs.Stripped.{some_same}
use Rattle.lvm_group.specs.Volume.{most_opened}
use Rattle.pool_image.specs.Drives.{Found}
use Rattle.pool_image.specs.Meaning.{truth_of}
use Rattle.pool_check.specs.declared.Checked.{Checked}
use Rattle.pool_check.specs.Layers.{AreOpened}
use Rattle.raid_rack.specs.declared.arrays.RaidRack.{RaidRack}
use Rattle.raid_rack.specs.AllRuns.{IsOneCall}
use Rattle.raid_laws.specs.Moves.{RaisesBy}
use Rattle.raid_laws.specs.Raid.{Raid}
use Rattle.raid_rack.specs.RaidRack.{raid_in}
use Rattle.raid_rack.proofs.Raises.{raises_more, raises_then, several_raise}
use Rattle.assembler_laws.specs.Raising.{RaisesOver, most_opening}
use Rattle.assembler_laws.proofs.Shows.{got}

-- a rack is made of arrays, in which places are noted and marked
pub raises_made : (k : ℕ) (s : State) (number : ℕ) (arrays : List View) (places : List ℕ) (v w : Raid) → v.state ≡ s → v.number ≡ number → length arrays ≡ s.made
    → ((n : ℕ) (u : View) → slice_get arrays n ≡ Some u → v.arrays n ≡ gone places (restarted u)) → RaisesBy k v w → RaisesOver k s number arrays w
raises_made k s number arrays places v w state_is number_is count are raises = record {
  number = let up = raises.number in omega (arith, up, number_is);
  epoch = let up = raises.epoch in let is = ap (λ (r : State). r.epoch) state_is in omega (arith, up, is);
  events = λ n u at.
      let low = slice_get_within arrays n u at in
      let made = ap (λ (r : State). r.made) state_is in
      let is = ap (λ (z : View). z.truth.events) (are n u at) in
      let up = raises.events n (omega (arith, low, count, made)) in
      omega (arith, is, up);
}

-- and is called then
pub raises_later : (j k most : ℕ) (s : State) (number : ℕ) (arrays : List View) (v w : Raid) → length arrays ≡ v.state.made → j + k ≤ most
    → RaisesOver j s number arrays v → RaisesBy k v w → RaisesOver most s number arrays w
raises_later j k most s number arrays v w count enough one two = record {
  number = let a = one.number in let b = two.number in omega (arith, a, b, enough);
  epoch = let a = one.epoch in let b = two.epoch in omega (arith, a, b, enough);
  events = λ n u at.
      let low = slice_get_within arrays n u at in
      let a = one.events n u at in
      let b = two.events n (omega (arith, low, count)) in
      omega (arith, a, b, enough);
}

-- a volume is opened on arrays, which are made to agree then
pub raises_opening : {R : Type 0} (x y z : RaidRack R) (s : State) → s ≡ (raid_in x).state → (raid_in y).state.made ≡ (raid_in x).state.made
    → Several (λ a b. IsOneCall (raid_in a) (raid_in b)) (most_opened s.joined) x y → RaisesBy 18 (raid_in y) (raid_in z)
    → RaisesBy (18 * (most_opened (raid_in x).state.joined + 1)) (raid_in x) (raid_in z)
raises_opening x y z s same made several last =
    let most = most_opened (raid_in x).state.joined in
    raises_more (18 * most + 18) (18 * (most + 1)) (raid_in x) (raid_in z) (omega arith)
    (raises_then (18 * most) 18 (raid_in x) (raid_in y) (raid_in z) made
    (several_raise most (18 * most) x y (omega arith)
    (subst (λ (t : State). Several (λ a b. IsOneCall (raid_in a) (raid_in b)) (most_opened t.joined) x y) same several))
    last)

-- the calls of an opening are few
pub opening_few : (joined made : ℕ) → joined ≤ made → made ≤ 16 → 35 + 18 * (most_opened joined + 1) ≤ most_opening
opening_few joined made low few = let all : 35 + 18 * (1039 * joined + 1) ≤ 1048576 = omega (arith, low, few) in all

-- the events are those of the pool's truths
pub raises_truth : (k : ℕ) (f : Found) (checked : Checked) (s : State) (number : ℕ) (v : Raid)
    → AreOpened f f.state.made checked.arrays.items checked.extents.items checked.stale.items → RaisesOver k s number checked.arrays.items v
    → (n : ℕ) (t : Super) → n < f.state.made → truth_of f n ≡ Some t → (v.arrays n).truth.events ≤ t.events + k
raises_truth k f checked s number v opened raises n t made truth =
    let at = got checked.arrays.items n (let count = opened.count in omega (arith, made, count)) in
    let of = opened.each n at.0 at.1 in
    let is = ap (λ (z : View). z.truth.events) of.view in
    let same = ap (λ (z : Super). z.events) (some_same of.truth t (sym of.truth_is ∙ truth)) in
    let up = raises.events n at.0 at.1 in
    omega (arith, is, same, up)
