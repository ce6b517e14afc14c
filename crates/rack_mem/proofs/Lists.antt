-- Elements of a list that got one more.
use Rattle.std.proofs.Common.{◌≡◌, ◌⊎◌, inl, inr, ap, ◌∙◌, ℕ, zero, suc, ◌<◌, List, [], ◌∷◌, ◌++◌, length, Some, refl, sym, arith, ◌≢◌, set}
use Rattle.std.specs.Prelude.{slice_get}
use Rattle.std.proofs.lemmas.Bool.{cases_lt}
use Rattle.std.proofs.lemmas.List.{length_push}
use Rattle.std.proofs.lemmas.Option.{slice_get_within}

-- the old elements stay
pub slice_get-append : {X : Type 0} (xs ys : List X) (k : ℕ) → k < length xs → slice_get (xs ++ ys) k ≡ slice_get xs k
slice_get-append [] ys k h = absurd (omega arith)
slice_get-append (x ∷ xs) ys zero h = refl
slice_get-append (x ∷ xs) ys (suc k) h = slice_get-append xs ys k (omega arith)

-- the new one is the last
pub slice_get-push : {X : Type 0} (xs : List X) (x : X) → slice_get (xs ++ x ∷ []) (length xs) ≡ Some x
slice_get-push [] x = refl
slice_get-push (y ∷ xs) x = slice_get-push xs x

-- a write at one place leaves the other elements
pub slice_get-set_other : {X : Type 0} (xs : List X) (i k : ℕ) (y : X) → k ≢ i → slice_get (set xs i y) k ≡ slice_get xs k
slice_get-set_other [] i k y apart = refl
slice_get-set_other (x ∷ xs) zero zero y apart = absurd (apart refl)
slice_get-set_other (x ∷ xs) zero (suc k) y apart = refl
slice_get-set_other (x ∷ xs) (suc i) zero y apart = refl
slice_get-set_other (x ∷ xs) (suc i) (suc k) y apart = slice_get-set_other xs i k y (λ e. apart (omega arith))

-- and puts the new one in its place
pub slice_get-set_same : {X : Type 0} (xs : List X) (i : ℕ) (x y : X) → slice_get xs i ≡ Some x → slice_get (set xs i y) i ≡ Some y
slice_get-set_same [] i x y e = cc
slice_get-set_same (z ∷ xs) zero x y e = refl
slice_get-set_same (z ∷ xs) (suc i) x y e = slice_get-set_same xs i x y e

-- an element of a list that got one more is an old one or the last
pub pushed_cases : {X : Type 0} (xs : List X) (x : X) (k : ℕ) (y : X) → slice_get (xs ++ x ∷ []) k ≡ Some y
    → (slice_get xs k ≡ Some y) ⊎ ((k ≡ length xs) × (x ≡ y))
pushed_cases xs x k y e =
    elim (cases_lt k (length xs)) [
      | inl old ↦ inl (sym (slice_get-append xs (x ∷ []) k old) ∙ e)
      | inr last ↦
          let within : k < length (xs ++ x ∷ []) = slice_get_within (xs ++ x ∷ []) k y e in
          let here : k ≡ length xs = omega (arith, length_push xs x) in
          let same : Some x ≡ Some y = sym (slice_get-push xs x) ∙ ap (slice_get (xs ++ x ∷ [])) (sym here) ∙ e in
          inr (here, cc)
    ]
