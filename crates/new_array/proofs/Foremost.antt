-- The foremost of a range is one of it.
use Rattle.std.proofs.Common.{◌≡◌, ◌⊎◌, ℕ, zero, suc, ◌+◌, ◌<◌, ◌≤◌, nat_lt, Bool, true, false, map, if◌then◌else◌, Option, Some, None, refl, sym, subst, ◌∙◌, inl, inr, arith}
use Rattle.std.specs.Option.{option_map_or}
use Rattle.std.specs.List.{range_with_len}
use Rattle.std.proofs.lemmas.Bool.{cases_lt}
use Rattle.array_image.specs.Foremost.{ahead, foremost}
use Rattle.array_core.proofs.Lists.{foremost_first}

no_element : {X : Type 0} {x : X} → None ≡ Some x → ⊥
no_element same = cc

leads_is : {X : Type 0} (measure : X → ℕ) (o : Option X) (rest : Option X) (t : X) → option_map_or (λ x. ahead measure x rest) o rest ≡ Some t → (o ≡ Some t) ⊎ (rest ≡ Some t)
leads_is measure None rest t is = inr is
leads_is measure (Some x) None t is = inl is
leads_is measure (Some x) (Some y) t is = of (nat_lt (measure x) (measure y)) is
  where
    of : (b : Bool) → (if b then Some y else Some x) ≡ Some t → (Some x ≡ Some t) ⊎ (Some y ≡ Some t)
    of true is = inr is
    of false is = inl is

-- it is one of them
pub foremost_is : {X : Type 0} (measure : X → ℕ) (g : ℕ → Option X) (a n : ℕ) (t : X) → foremost measure (map g (range_with_len a n)) ≡ Some t
    → (j : ℕ) × (a ≤ j) × (j < a + n) × (g j ≡ Some t)
unfolding foremost
foremost_is measure g a zero t is = absurd (no_element is)
foremost_is measure g a (suc n) t is =
    elim (leads_is measure (g a) (foremost measure (map g (range_with_len (a + 1) n))) t (sym (foremost_first measure (g a) (map g (range_with_len (a + 1) n))) ∙ is)) [
      | inl here ↦ (a, omega arith, omega arith, here)
      | inr later ↦
          let rest = foremost_is measure g (a + 1) n t later in
          (rest.0, let low = rest.1 in omega (arith, low), let high = rest.2 in omega (arith, high), rest.3)
    ]

leads_some : {X : Type 0} (measure : X → ℕ) (o rest : Option X) → ((x : X) × (o ≡ Some x)) ⊎ ((x : X) × (rest ≡ Some x)) → (t : X) × (option_map_or (λ x. ahead measure x rest) o rest ≡ Some t)
leads_some measure None rest (inl (x, is)) = absurd (no_element is)
leads_some measure None rest (inr there) = there
leads_some measure (Some x) None some = (x, refl)
leads_some {X} measure (Some x) (Some y) some = of (nat_lt (measure x) (measure y))
  where
    of : (b : Bool) → (t : X) × ((if b then Some y else Some x) ≡ Some t)
    of true = (y, refl)
    of false = (x, refl)

-- where there is one
pub foremost_there : {X : Type 0} (measure : X → ℕ) (g : ℕ → Option X) (a n k : ℕ) (x : X) → a ≤ k → k < a + n → g k ≡ Some x
    → (t : X) × (foremost measure (map g (range_with_len a n)) ≡ Some t)
foremost_there measure g a zero k x least low is = absurd (omega (arith, least, low))
foremost_there {X} measure g a (suc n) k x least low is = elim (cases_lt a k) [
  | inl more ↦
      let rest = foremost_there measure g (a + 1) n k x (omega (arith, more)) (omega (arith, low)) is in
      let some = leads_some measure (g a) (foremost measure (map g (range_with_len (a + 1) n))) (inr rest) in
      (some.0, foremost_first measure (g a) (map g (range_with_len (a + 1) n)) ∙ some.1)
  | inr less ↦
      let here : g a ≡ Some x = subst (λ j. g j ≡ Some x) (omega (arith, least, less)) is in
      let some = leads_some measure (g a) (foremost measure (map g (range_with_len (a + 1) n))) (inl (x, here)) in
      (some.0, foremost_first measure (g a) (map g (range_with_len (a + 1) n)) ∙ some.1)
]
