-- The first work that is left, done: the rest of the list is left.
use Rattle.std.proofs.Common.{◌≡◌, ℕ, Bool, List, [], ◌∷◌, ◌++◌, replicate, if◌then◌else◌, drop, slice_get, Option, Some, None, IfSome, inl, inr, true, false, nat_lt, refl, sym, ap, ◌∙◌, ⊎_elim}
use Rattle.std.specs.List.{flat_map}
use Rattle.std.specs.Option.{option_map_or}
use Rattle.std.proofs.lemmas.Bool.{cases_Bool, cond-false}
use Rattle.layer_plan.specs.declared.Layer.{Layer}
use Rattle.pool_state.specs.declared.contents.State.{State}
use Rattle.pool_state.specs.declared.contents.Work.{Work}
use Rattle.pool_state.specs.declared.contents.Work.TheVariants.{Make, Zero, Ready}
use Rattle.growth_plan.specs.declared.Progress.{Progress}
use Rattle.growth_plan.specs.Book.{IsBook, standing}
use Rattle.growth_plan.specs.Target.{new_layer}
use Rattle.growth_plan.specs.Works.{resyncs, rebuilds, growths, rows_of, zeros, makes, extends, closes, works_left}
use Rattle.growth_plan.specs.Doing.{HasOneLayer, is_of_layer}
use Rattle.growth_plan.proofs.Heads.{in_order-same, first_copy, first_part}
use Rattle.growth_plan.proofs.RowsDone.{left_after, resync_done, rebuild_done}
use Rattle.growth_plan.proofs.GrowthDone.{growth_done}
use Rattle.growth_plan.proofs.ZerosDone.{zero_at, after_makes, young_done}
use Rattle.growth_plan.proofs.MakeDone.{make_done}
use Rattle.growth_plan.proofs.EndDone.{extend_done, close_done}

new_done : (s : State) (p : Progress) (w : Work) (more : List Work) (layer : Option Layer) → IsBook s p → new_layer s p.arrays.items ≡ layer →
    option_map_or (λ l. Make s.made l.height ∷ zeros s.made (rows_of s l.height)) layer [] ≡ w ∷ more → left_after w s p ≡ after_makes s p more
new_done s p w more None book is e = cc
new_done s p w more (Some layer) book is e =
    let first : w ≡ Make s.made layer.height = cc e in
    let rest : zeros s.made (rows_of s layer.height) ≡ more = cc e in
    ap (λ (v : Work). left_after v s p) first ∙ make_done s p layer book is ∙ ap (λ (ws : List Work). after_makes s p ws) rest

makes_done : (s : State) (p : Progress) (w : Work) (more : List Work) → IsBook s p → HasOneLayer s p.arrays.items → makes s p.arrays.items ≡ w ∷ more →
    left_after w s p ≡ after_makes s p more
makes_done s p w more book one e =
    ⊎_elim
    (λ (young : nat_lt s.joined s.made ≡ true). young_done s p w more young one (rw young at e))
    (λ (ready : nat_lt s.joined s.made ≡ false). new_done s p w more (new_layer s p.arrays.items) book refl
    (sym (cond-false (nat_lt s.joined s.made) (zeros s.joined (zero_at p.arrays.items s.joined))
    (option_map_or (λ l. Make s.made l.height ∷ zeros s.made (rows_of s l.height)) (new_layer s p.arrays.items) []) ready) ∙ e))
    (cases_Bool (nat_lt s.joined s.made))

-- the first of the works on a new layer is one of them
zeros_first : (number rows : ℕ) (w : Work) (more : List Work) → zeros number rows ≡ w ∷ more → is_of_layer w ≡ true
zeros_first number rows w more e =
    elim (first_part w more (replicate rows (Zero number)) (Ready number ∷ []) e) [
      | inr here ↦ ap is_of_layer (first_copy rows (Zero number) w here.more here.here).0
      | inl none ↦ let last : w ≡ Ready number = cc none.1 in ap is_of_layer last
    ]

new_first : (s : State) (layer : Option Layer) (w : Work) (more : List Work) →
    option_map_or (λ l. Make s.made l.height ∷ zeros s.made (rows_of s l.height)) layer [] ≡ w ∷ more → is_of_layer w ≡ true
new_first s None w more e = cc
new_first s (Some layer) w more e = let first : w ≡ Make s.made layer.height = cc e in ap is_of_layer first

makes_first : (s : State) (p : Progress) (w : Work) (more : List Work) → makes s p.arrays.items ≡ w ∷ more → is_of_layer w ≡ true
makes_first s p w more = first_when (nat_lt s.joined s.made)
  where
    first_when :
        (young : Bool)
        → (if young then zeros s.joined (zero_at p.arrays.items s.joined)
        else option_map_or (λ l. Make s.made l.height ∷ zeros s.made (rows_of s l.height)) (new_layer s p.arrays.items) []) ≡ w ∷ more
        → is_of_layer w ≡ true
    first_when true e = zeros_first s.joined (zero_at p.arrays.items s.joined) w more e
    first_when false e = new_first s (new_layer s p.arrays.items) w more e

-- the end, where all else is done
end_done : (s : State) (p : Progress) (w : Work) (rest : List Work) → flat_map resyncs (standing p.arrays.items) ≡ [] →
    flat_map (rebuilds s) (standing p.arrays.items) ≡ [] → flat_map (growths s) (standing p.arrays.items) ≡ [] → makes s p.arrays.items ≡ [] →
    extends s p ++ closes s ≡ w ∷ rest → left_after w s p ≡ rest
end_done s p w rest hr hb hg hm e =
    elim (first_part w rest (extends s p) (closes s) e) [
      | inr here ↦
          extend_done s p w here.more here.here
          ∙ in_order-same [] [] [] [] here.more (closes s) _ _ _ _ here.more (closes s) hr hb hg hm refl refl ∙ sym here.behind
      | inl none ↦
          close_done s p w rest none.1 hb hg
          ∙ in_order-same [] [] [] [] [] rest _ _ _ _ (extends s p) rest hr hb hg hm none.0 refl
    ]

-- and from a new layer on
later_done : (s : State) (p : Progress) (w : Work) (rest : List Work) → IsBook s p → (is_of_layer w ≡ true → HasOneLayer s p.arrays.items) →
    flat_map resyncs (standing p.arrays.items) ≡ [] → flat_map (rebuilds s) (standing p.arrays.items) ≡ [] →
    flat_map (growths s) (standing p.arrays.items) ++ (makes s p.arrays.items ++ (extends s p ++ closes s)) ≡ w ∷ rest → left_after w s p ≡ rest
later_done s p w rest book one hr hb e =
    let g = flat_map (growths s) (standing p.arrays.items) in
    let m = makes s p.arrays.items in
    elim (first_part w rest g (m ++ (extends s p ++ closes s)) e) [
      | inr here ↦
          growth_done s p w rest here.more here.here
          (here.behind ∙ sym (in_order-same [] [] here.more m (extends s p) (closes s) _ _ here.more m (extends s p) (closes s) hr hb refl refl refl refl))
      | inl none ↦
          elim (first_part w rest m (extends s p ++ closes s) none.1) [
            | inr here ↦
                makes_done s p w here.more book (one (makes_first s p w here.more here.here)) here.here
                ∙ in_order-same [] [] [] here.more (extends s p) (closes s) _ _ g here.more (extends s p) (closes s) hr hb none.0 refl refl refl
                ∙ sym here.behind
            | inl made ↦ end_done s p w rest hr hb none.0 made.0 made.1
          ]
    ]

pub work_done : (s : State) (p : Progress) (w : Work) (rest : List Work) → IsBook s p → (is_of_layer w ≡ true → HasOneLayer s p.arrays.items) →
    works_left s p ≡ w ∷ rest → left_after w s p ≡ rest
work_done s p w rest book one e =
    let r = flat_map resyncs (standing p.arrays.items) in
    let b = flat_map (rebuilds s) (standing p.arrays.items) in
    let g = flat_map (growths s) (standing p.arrays.items) in
    let m = makes s p.arrays.items in
    elim (first_part w rest r (b ++ (g ++ (m ++ (extends s p ++ closes s)))) e) [
      | inr here ↦ resync_done s p w rest here.more here.here here.behind
      | inl none ↦
          elim (first_part w rest b (g ++ (m ++ (extends s p ++ closes s))) none.1) [
            | inr here ↦
                rebuild_done s p w rest here.more here.here
                (here.behind ∙ sym (ap (λ (ws : List Work). ws ++ (here.more ++ (g ++ (m ++ (extends s p ++ closes s))))) none.0))
            | inl quiet ↦ later_done s p w rest book one none.0 quiet.0 quiet.1
          ]
    ]

-- where there is a first work
first_of : (s : State) (p : Progress) (works : List Work) → IsBook s p → works_left s p ≡ works →
    IfSome (slice_get works 0) (λ work. (is_of_layer work ≡ true → HasOneLayer s p.arrays.items) → left_after work s p ≡ drop 1 works)
first_of s p [] book e = tt
first_of s p (w ∷ rest) book e = λ one. work_done s p w rest book one e

pub first_done : (s : State) (p : Progress) → IsBook s p →
    IfSome (slice_get (works_left s p) 0) (λ work. (is_of_layer work ≡ true → HasOneLayer s p.arrays.items) → left_after work s p ≡ drop 1 (works_left s p))
first_done s p book = first_of s p (works_left s p) book refl
