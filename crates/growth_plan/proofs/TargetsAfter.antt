-- The works leave what the arrays offer at the plan's end as it is.
use Rattle.std.proofs.Common.{◌≡◌, ℕ, ◌-◌, ◌*◌, List, ◌∷◌, ◌++◌, length, map, option_to_list, true, sym, ap, ◌∙◌, arith}
use Rattle.std.proofs.lemmas.List.{length-append}
use Rattle.std.proofs.lemmas.List.Sorted.{length_permutation}
use Rattle.pool_state.specs.declared.contents.State.{State}
use Rattle.pool_state.specs.declared.contents.Work.{Work}
use Rattle.growth_plan.specs.declared.ArrayNow.{ArrayNow}
use Rattle.growth_plan.specs.declared.Progress.{Progress}
use Rattle.growth_plan.specs.Book.{IsBook, Standing, standing, height_of}
use Rattle.growth_plan.specs.Target.{joining, members_at_end, extents_at_end, targets}
use Rattle.growth_plan.specs.Works.{works_left}
use Rattle.growth_plan.specs.Doing.{Book, HasOneLayer, after, is_of_layer}
use Rattle.growth_plan.specs.Sound.{ends_with}
use Rattle.growth_plan.proofs.Parts.{at, height-swapped}
use Rattle.growth_plan.proofs.OneArray.{ends-swapped, targets-same}
use Rattle.growth_plan.proofs.Sums.{one_more}
use Rattle.growth_plan.proofs.ZerosDone.{ready_targets}
use Rattle.growth_plan.proofs.MakeDone.{make_targets}
use Rattle.growth_plan.proofs.EndDone.{close_targets}
use Rattle.growth_plan.proofs.FirstWork.{ChangesOne, First, one_array, make, ready, extend, close, first_is}

-- how many members an array has at the plan's end
pub members_are : (s : State) (x : Standing) → members_at_end s x ≡ length (ends_with s x)
members_are s x = omega (arith, length-append x.now.members.items (option_to_list (joining s x)), one_more (joining s x))

one_targets : (s : State) (p : Progress) (w : Work) → ChangesOne s p w →
    targets (after w s p).state (after w s p).progress.arrays.items ≡ targets s p.arrays.items
one_targets s p w it =
    let below = it.below in
    let x = it.old in
    let y = it.new in
    let count : members_at_end s (at below y) ≡ members_at_end s (at below x) =
    members_are s (at below y) ∙ length_permutation (ends_with s (at below x)) (ends_with s (at below y)) it.members ∙ sym (members_are s (at below x)) in
    let offered : extents_at_end s (at below y) ≡ extents_at_end s (at below x) =
    ap (λ (n : ℕ). (n - 1) * y.height) count ∙ ap (λ (h : ℕ). (members_at_end s (at below x) - 1) * h) it.level in
    let ends = ends-swapped s below it.above x y it.level offered ∙ sym (ap (λ (xs : List ArrayNow). map (extents_at_end s) (standing xs)) it.arrays_are) in
    let height = height-swapped below it.above x y it.level ∙ sym (ap (λ (xs : List ArrayNow). height_of xs) it.arrays_are) in
    ap (λ (b : Book). targets b.state b.progress.arrays.items) it.does
    ∙ targets-same s p.arrays.items (below ++ y ∷ it.above) ends height

by_first : (s : State) (p : Progress) (w : Work) → IsBook s p → (is_of_layer w ≡ true → HasOneLayer s p.arrays.items) → First s p w →
    targets (after w s p).state (after w s p).progress.arrays.items ≡ targets s p.arrays.items
by_first s p w book one (one_array it) = one_targets s p w it
by_first s p w book one (make layer is found) =
    ap (λ (v : Work). targets (after v s p).state (after v s p).progress.arrays.items) is ∙ make_targets s p layer book found
by_first s p w book one (ready is young) =
    ap (λ (v : Work). targets (after v s p).state (after v s p).progress.arrays.items) is
    ∙ ready_targets s p.arrays.items young (one (ap is_of_layer is))
by_first s p w book one (extend is) = ap (λ (v : Work). targets (after v s p).state (after v s p).progress.arrays.items) is
by_first s p w book one (close is grown made) =
    ap (λ (v : Work). targets (after v s p).state (after v s p).progress.arrays.items) is ∙ close_targets s p.arrays.items grown

-- After the first of the works that are left the arrays offer what they did: a new layer becomes an array of as many extents.
pub targets_after : (s : State) (p : Progress) (w : Work) (rest : List Work) → IsBook s p → (is_of_layer w ≡ true → HasOneLayer s p.arrays.items) →
    works_left s p ≡ w ∷ rest → targets (after w s p).state (after w s p).progress.arrays.items ≡ targets s p.arrays.items
targets_after s p w rest book one e = by_first s p w book one (first_is s p w rest e)
