-- A row of a new array is zeroed, or the array becomes ready.
use Rattle.std.proofs.Common.{◌≡◌, ℕ, ◌+◌, ◌-◌, ◌||◌, List, [], ◌∷◌, ◌++◌, map, sum, replicate, Option, Some, None, inl, inr, slice_get, true, nat_lt, nat_le, if◌then◌else◌, refl, sym, ap, ◌∙◌, arith, add-zero}
use Rattle.std.specs.List.{flat_map}
use Rattle.std.specs.Option.{option_map_or}
use Rattle.std.proofs.lemmas.Bool.{cond_both, cond-false, le-ltb}
use Rattle.layer_plan.specs.declared.Layer.{Layer}
use Rattle.pool_state.specs.declared.contents.State.{State}
use Rattle.pool_state.specs.declared.contents.Work.{Work}
use Rattle.pool_state.specs.declared.contents.Work.TheVariants.{Make, Zero, Ready, Extend}
use Rattle.growth_plan.specs.declared.ArrayNow.{ArrayNow}
use Rattle.growth_plan.specs.declared.Progress.{Progress}
use Rattle.growth_plan.specs.Book.{standing, units_of, height_of}
use Rattle.growth_plan.specs.Target.{extents_at_end, layer_above, new_layer, targets}
use Rattle.growth_plan.specs.Works.{resyncs, rebuilds, growths, rows_of, zeros, makes, extends, closes, works_left}
use Rattle.growth_plan.specs.Doing.{change, HasOneLayer}
use Rattle.growth_plan.proofs.Heads.{in_order, in_order-same, first_part, first_copy}
use Rattle.growth_plan.proofs.Parts.{swapped, field-at, split_at}
use Rattle.growth_plan.proofs.OneArray.{put, array_done_with}
use Rattle.growth_plan.proofs.RowsDone.{left_after, change_at}

-- the rows of the young array
abbrev pub zero_at : List ArrayNow → ℕ → ℕ
zero_at arrays i = option_map_or (λ (a : ArrayNow). a.zero) (slice_get arrays i) 0

-- what is left but for the new array
abbrev pub after_makes : State → Progress → List Work → List Work
after_makes s p more =
    in_order (flat_map resyncs (standing p.arrays.items)) (flat_map (rebuilds s) (standing p.arrays.items)) (flat_map (growths s) (standing p.arrays.items))
    more (extends s p) (closes s)

-- no layer is made while an array isn't ready
pub none_while_young : (s : State) (arrays : List ArrayNow) → nat_lt s.joined s.made ≡ true → new_layer s arrays ≡ None
none_while_young s arrays young = rw young refl

-- no layer is left to make once it is ready
pub ready_none : (s : State) (arrays : List ArrayNow) → nat_lt s.joined s.made ≡ true → HasOneLayer s arrays →
    new_layer (record s { joined = s.made }) arrays ≡ None
ready_none s arrays young one =
    let none : layer_above (units_of s) (height_of arrays) ≡ None =
    ap (λ (h : ℕ). layer_above (units_of s) h) (sym (add-zero (height_of arrays)))
    ∙ ap (λ (o : Option Layer). layer_above (units_of s) (height_of arrays + option_map_or (λ layer. layer.height) o 0)) (sym (none_while_young s arrays young))
    ∙ one.no_other in
    cond_both (nat_lt s.made s.made || nat_le 16 s.made) None (layer_above (units_of s) (height_of arrays)) (λ (o : Option Layer). o ≡ None)
    (λ e. refl) (λ e. none)

-- The arrays offer then what they did.
pub ready_targets : (s : State) (arrays : List ArrayNow) → nat_lt s.joined s.made ≡ true → HasOneLayer s arrays →
    targets (record s { joined = s.made }) arrays ≡ targets s arrays
ready_targets s arrays young one =
    ap (λ (o : Option Layer). map (extents_at_end s) (standing arrays) ++ option_map_or (λ layer. layer.extents ∷ []) o [])
    (ready_none s arrays young one ∙ sym (none_while_young s arrays young))

pub ready_done : (s : State) (p : Progress) → nat_lt s.joined s.made ≡ true → HasOneLayer s p.arrays.items →
    left_after (Ready s.joined) s p ≡ after_makes s p []
ready_done s p young one =
    let arrays = p.arrays.items in
    let ready : State = record s { joined = s.made } in
    let made : makes ready arrays ≡ [] =
    cond-false (nat_lt s.made s.made) (zeros s.made (zero_at arrays s.made))
    (option_map_or (λ layer. Make s.made layer.height ∷ zeros s.made (rows_of s layer.height)) (new_layer ready arrays) [])
    (le-ltb s.made s.made (omega arith))
    ∙ ap (λ (o : Option Layer). option_map_or (λ layer. Make s.made layer.height ∷ zeros s.made (rows_of s layer.height)) o []) (ready_none s arrays young one) in
    let extended : extends ready p ≡ extends s p =
    ap (λ (ts : List ℕ). if nat_lt p.extents (sum ts) then Extend ∷ [] else []) (ready_targets s arrays young one) in
    in_order-same _ _ _ [] (extends s p) (closes s) (flat_map resyncs (standing arrays)) (flat_map (rebuilds ready) (standing arrays))
    (flat_map (growths ready) (standing arrays)) (makes ready arrays) (extends ready p) (closes ready)
    refl refl refl made extended refl

-- the rows of an array that stands there
pub found_zero : (arrays : List ArrayNow) (i : ℕ) (array : Option ArrayNow) (w : Work) (more : List Work) → slice_get arrays i ≡ array →
    replicate (option_map_or (λ (a : ArrayNow). a.zero) array 0) (Zero i) ≡ w ∷ more → (x : ArrayNow) × (slice_get arrays i ≡ Some x)
found_zero arrays i None w more is e = cc
found_zero arrays i (Some x) w more is e = (x, is)

pub zero_done : (s : State) (p : Progress) (w : Work) (more : List Work) → nat_lt s.joined s.made ≡ true →
    replicate (zero_at p.arrays.items s.joined) (Zero s.joined) ≡ w ∷ more →
    left_after w s p ≡ after_makes s p (more ++ Ready s.joined ∷ [])
zero_done s p w more young e =
    let arrays = p.arrays.items in
    let copy = first_copy (zero_at arrays s.joined) (Zero s.joined) w more e in
    let there = found_zero arrays s.joined (slice_get arrays s.joined) w more refl e in
    let x = there.0 in
    let split = split_at arrays s.joined x there.1 in
    let to : ArrayNow → ArrayNow = λ a. record a { zero = a.zero - 1 } in
    let y = to x in
    let news = change_at to arrays split.below split.above x split.arrays_are in
    let rows : zero_at (split.below ++ y ∷ split.above) s.joined ≡ zero_at arrays s.joined - 1 =
    sym (ap (λ (i : ℕ). zero_at (split.below ++ y ∷ split.above) i) split.count)
    ∙ field-at (λ (a : ArrayNow). a.zero) split.below split.above y
    ∙ ap (λ (o : Option ArrayNow). option_map_or (λ (a : ArrayNow). a.zero) o 0 - 1) (sym there.1) in
    let made : makes s (split.below ++ y ∷ split.above) ≡ more ++ Ready s.joined ∷ [] =
    rw young (ap (λ (z : ℕ). zeros s.joined z) rows ∙ ap (λ (ws : List Work). ws ++ Ready s.joined ∷ []) (sym copy.1)) in
    let done = array_done_with s p split.below split.above x y _ _ _ (more ++ Ready s.joined ∷ []) split.arrays_are refl made refl
    (swapped resyncs split.below split.above x y refl refl
    ∙ sym (ap (λ (xs : List ArrayNow). flat_map resyncs (standing xs)) split.arrays_are))
    (swapped (rebuilds s) split.below split.above x y refl refl
    ∙ sym (ap (λ (xs : List ArrayNow). flat_map (rebuilds s) (standing xs)) split.arrays_are))
    (swapped (growths s) split.below split.above x y refl refl
    ∙ sym (ap (λ (xs : List ArrayNow). flat_map (growths s) (standing xs)) split.arrays_are)) in
    ap (λ (v : Work). left_after v s p) copy.0
    ∙ ap (λ (i : ℕ). works_left s (put p (change i to arrays))) (sym split.count)
    ∙ ap (λ (xs : List ArrayNow). works_left s (put p xs)) news ∙ done

pub young_done : (s : State) (p : Progress) (w : Work) (more : List Work) → nat_lt s.joined s.made ≡ true → HasOneLayer s p.arrays.items →
    zeros s.joined (zero_at p.arrays.items s.joined) ≡ w ∷ more → left_after w s p ≡ after_makes s p more
young_done s p w more young one e =
    elim (first_part w more (replicate (zero_at p.arrays.items s.joined) (Zero s.joined)) (Ready s.joined ∷ []) e) [
      | inl none ↦
          let first : w ≡ Ready s.joined = cc (none.1) in
          let last : [] ≡ more = cc (none.1) in
          ap (λ (v : Work). left_after v s p) first ∙ ready_done s p young one ∙ ap (λ (ws : List Work). after_makes s p ws) last
      | inr some ↦ zero_done s p w some.more young some.here ∙ ap (λ (ws : List Work). after_makes s p ws) (sym some.behind)
    ]
