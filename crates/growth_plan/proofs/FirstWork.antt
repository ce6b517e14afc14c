-- What the first of the works that are left does to the book.
use Rattle.std.proofs.Common.{◌≡◌, ℕ, ◌-◌, List, [], ◌∷◌, ◌++◌, length, slice_get, replicate, IsPermutation, Option, Some, None, is_some, inl, inr, Bool, true, false, nat_lt, sum, if◌then◌else◌, refl, sym, ap, ◌∙◌}
use Rattle.std.specs.List.{flat_map}
use Rattle.std.specs.Option.{option_map_or}
use Rattle.std.proofs.lemmas.List.Sorted.{IsPermutation-refl}
use Rattle.layer_plan.specs.declared.Layer.{Layer}
use Rattle.pool_state.specs.declared.contents.State.{State}
use Rattle.pool_state.specs.declared.contents.Work.{Work}
use Rattle.pool_state.specs.declared.contents.Work.TheVariants.{Resync, Rebuild, Make, Zero, Ready, Extend, Close}
use Rattle.growth_plan.specs.declared.ArrayNow.{ArrayNow}
use Rattle.growth_plan.specs.declared.Progress.{Progress}
use Rattle.growth_plan.specs.Book.{standing}
use Rattle.growth_plan.specs.Target.{planned, new_layer, targets}
use Rattle.growth_plan.specs.Works.{resyncs, rebuilt, rebuilds, growths, rows_of, zeros, makes, extends, closes, works_left}
use Rattle.growth_plan.specs.Doing.{after, change, with_arrays, rows_rebuilt}
use Rattle.growth_plan.specs.Sound.{ends_with}
use Rattle.growth_plan.proofs.Heads.{first_part, first_copy}
use Rattle.growth_plan.proofs.Parts.{at, first_at, split_at}
use Rattle.growth_plan.proofs.RowsDone.{change_at, first_rebuild}
use Rattle.growth_plan.proofs.GrowthDone.{step}
use Rattle.growth_plan.proofs.ZerosDone.{zero_at, found_zero}

-- A work that changes one array: its height stays, and so do the members that it has at the plan's end.
pub record ChangesOne (s : State) (p : Progress) (w : Work) : Type 0 where
  pub below : List ArrayNow
  pub old : ArrayNow
  pub new : ArrayNow
  pub above : List ArrayNow
  pub arrays_are : p.arrays.items ≡ below ++ old ∷ above
  pub does : after w s p ≡ with_arrays s p (below ++ new ∷ above)
  pub level : new.height ≡ old.height
  pub members : IsPermutation (ends_with s (at below old)) (ends_with s (at below new))

-- What is known of the first work.
pub data First (s : State) (p : Progress) (w : Work) : Type 0 where
  one_array : ChangesOne s p w → First s p w
  make : (layer : Layer) → w ≡ Make s.made layer.height → new_layer s p.arrays.items ≡ Some layer → First s p w
  ready : w ≡ Ready s.joined → nat_lt s.joined s.made ≡ true → First s p w
  extend : w ≡ Extend → First s p w
  close : w ≡ Close → flat_map (growths s) (standing p.arrays.items) ≡ [] → makes s p.arrays.items ≡ [] → First s p w

-- a change of one array at its number
changes : (s : State) (p : Progress) (w v : Work) (to : ArrayNow → ArrayNow) (below above : List ArrayNow) (x : ArrayNow) →
    p.arrays.items ≡ below ++ x ∷ above → w ≡ v → after v s p ≡ with_arrays s p (change (length below) to p.arrays.items) → (to x).height ≡ x.height →
    IsPermutation (ends_with s (at below x)) (ends_with s (at below (to x))) → ChangesOne s p w
changes s p w v to below above x are first does level members = record {
  below = below;
  old = x;
  new = to x;
  above = above;
  arrays_are = are;
  does = ap (λ (u : Work). after u s p) first ∙ does ∙ ap (λ (xs : List ArrayNow). with_arrays s p xs) (change_at to p.arrays.items below above x are);
  level = level;
  members = members;
}

first_resync : (s : State) (p : Progress) (w : Work) (more : List Work) → flat_map resyncs (standing p.arrays.items) ≡ w ∷ more → ChangesOne s p w
first_resync s p w more e =
    let found = first_at resyncs p.arrays.items w more e in
    let x = found.now in
    let copy = first_copy x.resync (Resync (length found.below)) w found.more found.here in
    changes s p w (Resync (length found.below)) (λ a. record a { resync = a.resync - 1 }) found.below found.above x found.arrays_are copy.0 refl refl
    (IsPermutation-refl (ends_with s (at found.below x)))

first_row : (s : State) (p : Progress) (w : Work) (more : List Work) → flat_map (rebuilds s) (standing p.arrays.items) ≡ w ∷ more → ChangesOne s p w
first_row s p w more e =
    let found = first_at (rebuilds s) p.arrays.items w more e in
    let x = found.now in
    let row = first_rebuild (rebuilt s) found.below x w found.more found.here in
    changes s p w (Rebuild (length found.below) row.0) (rows_rebuilt 1) found.below found.above x found.arrays_are row.1 refl refl
    (IsPermutation-refl (ends_with s (at found.below x)))

first_growth : (s : State) (p : Progress) (w : Work) (more : List Work) → flat_map (growths s) (standing p.arrays.items) ≡ w ∷ more → ChangesOne s p w
first_growth s p w more e =
    let found = first_at (growths s) p.arrays.items w more e in
    let it = step s p found.below found.now w found.more found.here in
    changes s p w w it.to found.below found.above found.now found.arrays_are refl it.does it.level it.members

first_zero : (s : State) (p : Progress) (w : Work) (more : List Work) → replicate (zero_at p.arrays.items s.joined) (Zero s.joined) ≡ w ∷ more → ChangesOne s p w
first_zero s p w more e =
    let arrays = p.arrays.items in
    let copy = first_copy (zero_at arrays s.joined) (Zero s.joined) w more e in
    let there = found_zero arrays s.joined (slice_get arrays s.joined) w more refl e in
    let split = split_at arrays s.joined there.0 there.1 in
    changes s p w (Zero (length split.below)) (λ a. record a { zero = a.zero - 1 }) split.below split.above there.0 split.arrays_are
    (copy.0 ∙ sym (ap (λ (i : ℕ). Zero i) split.count)) refl refl
    (IsPermutation-refl (ends_with s (at split.below there.0)))

first_new : (s : State) (p : Progress) (w : Work) (more : List Work) (layer : Option Layer) → new_layer s p.arrays.items ≡ layer →
    option_map_or (λ l. Make s.made l.height ∷ zeros s.made (rows_of s l.height)) layer [] ≡ w ∷ more → First s p w
first_new s p w more None is e = cc
first_new s p w more (Some layer) is e = let first : w ≡ Make s.made layer.height = cc e in make layer first is

first_make : (s : State) (p : Progress) (w : Work) (more : List Work) (young : Bool) → nat_lt s.joined s.made ≡ young →
    (if young then zeros s.joined (zero_at p.arrays.items s.joined)
    else option_map_or (λ l. Make s.made l.height ∷ zeros s.made (rows_of s l.height)) (new_layer s p.arrays.items) []) ≡ w ∷ more → First s p w
first_make s p w more true is e =
    elim (first_part w more (replicate (zero_at p.arrays.items s.joined) (Zero s.joined)) (Ready s.joined ∷ []) e) [
      | inl none ↦ let first : w ≡ Ready s.joined = cc (none.1) in ready first is
      | inr some ↦ one_array (first_zero s p w some.more some.here)
    ]
first_make s p w more false is e = first_new s p w more (new_layer s p.arrays.items) refl e

first_end : (s : State) (p : Progress) (w : Work) (rest : List Work) → flat_map (growths s) (standing p.arrays.items) ≡ [] → makes s p.arrays.items ≡ [] →
    (b c : Bool) → (if b then Extend ∷ [] else []) ++ (if c then Close ∷ [] else []) ≡ w ∷ rest → First s p w
first_end s p w rest grown made true c e = let first : w ≡ Extend = cc e in extend first
first_end s p w rest grown made false true e = let first : w ≡ Close = cc e in close first grown made
first_end s p w rest grown made false false e = cc

-- Whichever work is first, it is one of these.
pub first_is : (s : State) (p : Progress) (w : Work) (rest : List Work) → works_left s p ≡ w ∷ rest → First s p w
first_is s p w rest e =
    let arrays = standing p.arrays.items in
    let r = flat_map resyncs arrays in
    let b = flat_map (rebuilds s) arrays in
    let g = flat_map (growths s) arrays in
    let m = makes s p.arrays.items in
    let ends = extends s p ++ closes s in
    elim (first_part w rest r (b ++ (g ++ (m ++ ends))) e) [
      | inr here ↦ one_array (first_resync s p w here.more here.here)
      | inl quiet ↦
          elim (first_part w rest b (g ++ (m ++ ends)) quiet.1) [
            | inr here ↦ one_array (first_row s p w here.more here.here)
            | inl synced ↦
                elim (first_part w rest g (m ++ ends) synced.1) [
                  | inr here ↦ one_array (first_growth s p w here.more here.here)
                  | inl grown ↦
                      elim (first_part w rest m ends grown.1) [
                        | inr here ↦ first_make s p w here.more (nat_lt s.joined s.made) refl here.here
                        | inl made ↦
                            first_end s p w rest grown.0 made.0 (nat_lt p.extents (sum (targets s p.arrays.items))) (is_some (planned s.plan)) made.1
                      ]
                ]
          ]
    ]
