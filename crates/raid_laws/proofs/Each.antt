-- Lists whose elements a loop changes one after the other.
use Rattle.std.proofs.Common.{◌≡◌, ◌⊎◌, ℕ, zero, suc, ◌+◌, ◌<◌, ◌≤◌, Bool, nat_lt, if◌then◌else◌, List, [], ◌∷◌, set, get_or, length, slice_get, Some, None, option_map, refl, sym, ap, ◌∙◌, inl, inr, arith, lt-ltb, le-ltb}
use Rattle.std.proofs.lemmas.Bool.{cases_lt, cases_eq}
use Rattle.std.proofs.lemmas.Option.{slice_get-get_or, slice_get_past}

pub get_set_same : {X : Type 0} (xs : List X) (i : ℕ) (v : X) → i < length xs → slice_get (set xs i v) i ≡ Some v
get_set_same [] i v below = absurd (omega (arith, below))
get_set_same (x ∷ xs) zero v below = refl
get_set_same (x ∷ xs) (suc i) v below = get_set_same xs i v (omega (arith, below))

pub get_set_other : {X : Type 0} (xs : List X) (i n : ℕ) (v : X) → (n ≡ i → ⊥) → slice_get (set xs i v) n ≡ slice_get xs n
get_set_other [] i n v other = refl
get_set_other (x ∷ xs) zero zero v other = absurd (other refl)
get_set_other (x ∷ xs) zero (suc n) v other = refl
get_set_other (x ∷ xs) (suc i) zero v other = refl
get_set_other (x ∷ xs) (suc i) (suc n) v other = get_set_other xs i n v (λ same. other (omega (arith, same)))

-- each element below an index is changed
abbrev pub ChangedBelow : {X : Type 0} → (X → X) → List X → ℕ → List X → Type 0
ChangedBelow f before i now = (n : ℕ) → slice_get now n ≡ (if nat_lt n i then option_map f (slice_get before n) else slice_get before n)

pub changed_first : {X : Type 0} (f : X → X) (xs : List X) → ChangedBelow f xs 0 xs
changed_first f xs n = sym (ap (λ b. if b then option_map f (slice_get xs n) else slice_get xs n) (le-ltb n 0 (omega arith)))

-- one more
pub changed_more : {X : Type 0} (f : X → X) (before now : List X) (i : ℕ) (d v : X) → i < length now
    → ChangedBelow f before i now → v ≡ f (get_or now i d) → ChangedBelow f before (i + 1) (set now i v)
changed_more f before now i d v below changed new n =
    let At : Bool → Type 0 = λ b. slice_get (set now i v) n ≡ (if b then option_map f (slice_get before n) else slice_get before n) in
    elim (cases_eq n i) [
      | inl here ↦
          let old : slice_get before n ≡ slice_get now n =
          sym (changed n ∙ ap (λ b. if b then option_map f (slice_get before n) else slice_get before n) (le-ltb n i (omega (arith, here)))) in
          let got : slice_get now n ≡ Some (get_or now i d) = ap (slice_get now) here ∙ slice_get-get_or now i d below in
          ap (λ k. slice_get (set now i v) k) here ∙ get_set_same now i v below
          ∙ ap Some new ∙ sym (ap (option_map f) (old ∙ got))
          ∙ sym (ap (λ b. if b then option_map f (slice_get before n) else slice_get before n) (lt-ltb n (i + 1) (omega (arith, here))))
      | inr other ↦
          get_set_other now i n v other ∙ changed n
          ∙ ap (λ b. if b then option_map f (slice_get before n) else slice_get before n) (same_test (cases_lt n i) other)
    ]
  where
    same_test : (n < i) ⊎ (i ≤ n) → (n ≡ i → ⊥) → nat_lt n i ≡ nat_lt n (i + 1)
    same_test (inl less) other = lt-ltb n i less ∙ sym (lt-ltb n (i + 1) (omega (arith, less)))
    same_test (inr more) other = le-ltb n i more ∙ sym (le-ltb n (i + 1) (omega (arith, more, other)))

-- all
pub changed_all : {X : Type 0} (f : X → X) (before now : List X) (i : ℕ) → length before ≤ i → ChangedBelow f before i now
    → (n : ℕ) → slice_get now n ≡ option_map f (slice_get before n)
changed_all f before now i past changed n =
    changed n
    ∙ elim (cases_lt n i) [
      | inl less ↦ ap (λ b. if b then option_map f (slice_get before n) else slice_get before n) (lt-ltb n i less)
      | inr more ↦
          let none : slice_get before n ≡ None = slice_get_past before n (omega (arith, more, past)) in
          ap (λ b. if b then option_map f (slice_get before n) else slice_get before n) (le-ltb n i more) ∙ none ∙ sym (ap (option_map f) none)
    ]
