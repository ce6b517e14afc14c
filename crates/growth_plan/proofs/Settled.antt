-- Where no change is pending, no work on a new layer is left: so it is where all arrays are ready and one drive at most goes on above
-- them, and each work keeps it so.
use Rattle.std.proofs.Common.{◌≡◌, ℕ, ◌≤◌, ◌||◌, nat_lt, nat_le, List, [], ◌∷◌, ◌++◌, Option, None, refl, sym, ap, subst, ◌∙◌, arith}
use Rattle.std.specs.Option.{option_map_or}
use Rattle.std.proofs.lemmas.Bool.{cond_both, cond-false, le-ltb}
use Rattle.layer_plan.specs.declared.Layer.{Layer}
use Rattle.pool_state.specs.declared.contents.Plan.TheVariants.{Nothing}
use Rattle.pool_state.specs.declared.contents.State.{State}
use Rattle.pool_state.specs.declared.contents.Work.{Work}
use Rattle.pool_state.specs.declared.contents.Work.TheVariants.{Make}
use Rattle.growth_plan.specs.declared.ArrayNow.{ArrayNow}
use Rattle.growth_plan.specs.declared.Progress.{Progress}
use Rattle.growth_plan.specs.Book.{units_of, height_of}
use Rattle.growth_plan.specs.Target.{layer_above}
use Rattle.growth_plan.specs.Works.{rows_of, zeros, makes, works_left}
use Rattle.growth_plan.specs.Doing.{Book, after}
use Rattle.growth_plan.proofs.Above.{count_above, few_above}
use Rattle.growth_plan.proofs.Admitted.{all_ready, no_layer_left}
use Rattle.growth_plan.proofs.FirstWork.{ChangesOne, First, one_array, make, ready, extend, close, first_is}
use Rattle.growth_plan.proofs.Greatest.{alone_above}
use Rattle.growth_plan.proofs.OneArray.{layer_by}
use Rattle.growth_plan.proofs.Parts.{height-swapped}
use Rattle.growth_plan.proofs.ZerosDone.{zero_at}

abbrev new_works : State → Option Layer → List Work
new_works s layer = option_map_or (λ l. Make s.made l.height ∷ zeros s.made (rows_of s l.height)) layer []

-- what is left of a new layer where all arrays are ready
makes_ready : (s : State) (arrays : List ArrayNow) → s.made ≤ s.joined → makes s arrays ≡ new_works s (layer_by s (height_of arrays))
makes_ready s arrays done =
    cond-false (nat_lt s.joined s.made) (zeros s.joined (zero_at arrays s.joined)) (new_works s (layer_by s (height_of arrays)))
    (le-ltb s.joined s.made done)

-- No work on a new layer is left where all arrays are ready and at most one drive goes on above them.
pub none_to_make : (s : State) (arrays : List ArrayNow) → s.made ≤ s.joined → count_above (height_of arrays) (units_of s) ≤ 1 → makes s arrays ≡ []
none_to_make s arrays done one =
    let high = height_of arrays in
    let none = alone_above (units_of s) high one (few_above high (units_of s) (omega (arith, one))) in
    makes_ready s arrays done
    ∙ ap (λ (o : Option Layer). new_works s o)
    (cond_both (nat_lt s.joined s.made || nat_le 16 s.made) None (layer_above (units_of s) high) (λ (o : Option Layer). o ≡ None) (λ e. refl) (λ e. none))

one_settled : (s : State) (p : Progress) (w : Work) (it : ChangesOne s p w) → makes s p.arrays.items ≡ [] → makes s (it.below ++ it.new ∷ it.above) ≡ []
one_settled s p w it e =
    let done = all_ready s p.arrays.items e in
    let height = height-swapped it.below it.above it.old it.new it.level ∙ sym (ap (λ (xs : List ArrayNow). height_of xs) it.arrays_are) in
    makes_ready s (it.below ++ it.new ∷ it.above) done ∙ ap (λ (h : ℕ). new_works s (layer_by s h)) height ∙ sym (makes_ready s p.arrays.items done) ∙ e

-- a book in which no work on a new layer is left unless a change is pending
abbrev IsSettled : Book → Type 0
IsSettled b = b.state.plan ≡ Nothing → makes b.state b.progress.arrays.items ≡ []

by_first : (s : State) (p : Progress) (w : Work) → IsSettled (record { state = s; progress = p }) → First s p w → IsSettled (after w s p)
by_first s p w settled (one_array it) =
    subst IsSettled (sym it.does) (λ quiet. one_settled s p w it (settled quiet))
by_first s p w settled (make layer is found) =
    subst (λ (v : Work). IsSettled (after v s p)) (sym is)
    (λ quiet.
    let e = settled quiet in
    let none = no_layer_left s (layer_by s (height_of p.arrays.items)) (sym (makes_ready s p.arrays.items (all_ready s p.arrays.items e)) ∙ e) in
    cc (none, found))
by_first s p w settled (ready is young) =
    subst (λ (v : Work). IsSettled (after v s p)) (sym is)
    (λ quiet. cc (young, le-ltb s.joined s.made (all_ready s p.arrays.items (settled quiet))))
by_first s p w settled (extend is) = subst (λ (v : Work). IsSettled (after v s p)) (sym is) settled
by_first s p w settled (close is grown made) = subst (λ (v : Work). IsSettled (after v s p)) (sym is) (λ quiet. made)

-- The works keep it so that none is left unless a change is pending.
pub settled_after : (s : State) (p : Progress) (w : Work) (rest : List Work) → (s.plan ≡ Nothing → makes s p.arrays.items ≡ []) → works_left s p ≡ w ∷ rest →
    (after w s p).state.plan ≡ Nothing → makes (after w s p).state (after w s p).progress.arrays.items ≡ []
settled_after s p w rest settled e = by_first s p w settled (first_is s p w rest e)
