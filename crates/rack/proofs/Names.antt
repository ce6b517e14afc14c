-- Names that differ, and one more.
use Rattle.std.specs.Prelude.{◌≡◌, ◌⊎◌, ℕ, zero, suc, ◌<◌, List, [], ◌∷◌, ◌++◌, length, slice_get, Some, refl}
use Rattle.std.proofs.Common.{sym, ◌∙◌, ap, subst, inl, inr, arith}
use Rattle.rack.specs.Shelf.{Differ}

-- what stands in a list with one more
pub get-push_cases :
    {A : Type 0} (xs : List A) (y v : A) (i : ℕ)
    → slice_get (xs ++ y ∷ []) i ≡ Some v
    → (slice_get xs i ≡ Some v) ⊎ ((i ≡ length xs) × (v ≡ y))
get-push_cases [] y v zero at = inr (refl, (cc))
get-push_cases [] y v (suc i) at = inl at
get-push_cases (x ∷ xs) y v zero at = inl at
get-push_cases (x ∷ xs) y v (suc i) at =
    elim (get-push_cases xs y v i at) [
      | inl old ↦ inl old
      | inr new ↦ inr (ap suc new.0, new.1)
    ]

-- what stood in a list stands there with one more
pub get-push : {A : Type 0} (xs : List A) (y : A) (i : ℕ) → i < length xs → slice_get (xs ++ y ∷ []) i ≡ slice_get xs i
get-push [] y i inside = absurd (omega arith)
get-push (x ∷ xs) y zero inside = refl
get-push (x ∷ xs) y (suc i) inside = get-push xs y i (omega arith)

-- the one more stands last
pub get-last : {A : Type 0} (xs : List A) (y : A) → slice_get (xs ++ y ∷ []) (length xs) ≡ Some y
get-last [] y = refl
get-last (x ∷ xs) y = get-last xs y

-- a name that isn't there yet
pub differ_push :
    (names : List (List ℕ)) (new : List ℕ)
    → Differ names
    → ((d : ℕ) → slice_get names d ≡ Some new → ⊥)
    → Differ (names ++ new ∷ [])
differ_push names new differ none i j name at_i at_j =
    elim (get-push_cases names new name i at_i) [
      | inl old_i ↦
          elim (get-push_cases names new name j at_j) [
            | inl old_j ↦ differ i j name old_i old_j
            | inr new_j ↦ absurd (none i (subst (λ n. slice_get names i ≡ Some n) new_j.1 old_i))
          ]
      | inr new_i ↦
          elim (get-push_cases names new name j at_j) [
            | inl old_j ↦ absurd (none j (subst (λ n. slice_get names j ≡ Some n) new_i.1 old_j))
            | inr new_j ↦ new_i.0 ∙ sym new_j.0
          ]
    ]
