-- The levels of an ascending list are its cut points.
use Rattle.std.proofs.Common.{◌≡◌, ℕ, zero, suc, ◌+◌, ◌<◌, ◌≤◌, ◌⊎◌, List, [], ◌∷◌, length, get_or, nat_lt, true, false, refl, sym, subst, ◌∙◌, arith, inl, inr, ⊎_elim, Contains, IsPermutation}
use Rattle.std.specs.List.Sorted.{IsStrictlyIncreasing, IsNonDecreasing}
use Rattle.std.proofs.lemmas.Bool.{cases_lt, lt-ltb, le-ltb}
use Rattle.std.proofs.lemmas.List.Sorted.{IsNonDecreasingBy-drop, Contains-permutation, IsPermutation-sym}
use Rattle.layer_plan.specs.Layering.{IsCutPoints}
use Rattle.layer_plan.proofs.Reached.{rungs, Rising}

rungs_yes : (lower x : ℕ) (xs : List ℕ) → lower < x → rungs lower (x ∷ xs) ≡ x ∷ rungs x xs
rungs_yes lower x xs h = let rises : nat_lt lower x ≡ true = lt-ltb lower x h in rw rises

rungs_no : (lower x : ℕ) (xs : List ℕ) → x ≤ lower → rungs lower (x ∷ xs) ≡ rungs lower xs
rungs_no lower x xs h = let stays : nat_lt lower x ≡ false = le-ltb lower x h in rw stays

strictly_cons : (a b : ℕ) (xs : List ℕ) → a < b → IsStrictlyIncreasing (b ∷ xs) → IsStrictlyIncreasing (a ∷ b ∷ xs)
strictly_cons a b xs h rest zero inside = h
strictly_cons a b xs h rest (suc k) inside =
    let next : suc k + 1 ≡ suc (k + 1) = omega arith in
    rw next (rest k (omega arith))

-- the levels rise
pub rungs_rise : (lower : ℕ) (xs : List ℕ) → IsStrictlyIncreasing (lower ∷ rungs lower xs)
rungs_rise lower [] = λ k inside. absurd (omega arith)
rungs_rise lower (x ∷ xs) =
    ⊎_elim
    (λ (h : lower < x). rw (rungs_yes lower x xs h) (strictly_cons lower x (rungs x xs) h (rungs_rise x xs)))
    (λ (h : x ≤ lower). rw (rungs_no lower x xs h) (rungs_rise lower xs))
    (cases_lt lower x)

-- a member of a list is its first element or one of the others
pub contains_first : (x : ℕ) (xs : List ℕ) → Contains (x ∷ xs) x
contains_first x xs = (0, omega arith, refl)

pub contains_later : (x v : ℕ) (xs : List ℕ) → Contains xs v → Contains (x ∷ xs) v
contains_later x v xs c = (suc c.0, omega (arith, c.1), c.2)

contains_cases : (x v : ℕ) (xs : List ℕ) → Contains (x ∷ xs) v → (x ≡ v) ⊎ Contains xs v
contains_cases x v xs c = at_index c.0 c.1 c.2 where
  at_index : (k : ℕ) → k < length (x ∷ xs) → get_or (x ∷ xs) k v ≡ v → (x ≡ v) ⊎ Contains xs v
  at_index zero inside is = inl is
  at_index (suc k) inside is = inr (k, omega arith, is)

-- each level is of the list
levels_are_units : (lower v : ℕ) (xs : List ℕ) → Contains (rungs lower xs) v → Contains xs v
levels_are_units lower v [] c = c
levels_are_units lower v (x ∷ xs) c =
    ⊎_elim
    (λ (h : lower < x).
    ⊎_elim
    (λ (e : x ≡ v). subst (Contains (x ∷ xs)) e (contains_first x xs))
    (λ (later : Contains (rungs x xs) v). contains_later x v xs (levels_are_units x v xs later))
    (contains_cases x v (rungs x xs) (subst (λ t. Contains t v) (rungs_yes lower x xs h) c)))
    (λ (h : x ≤ lower).
    contains_later x v xs (levels_are_units lower v xs (subst (λ t. Contains t v) (rungs_no lower x xs h) c)))
    (cases_lt lower x)

-- each element of an ascending list is a level
units_are_levels : (lower v : ℕ) (xs : List ℕ) → Rising lower xs → Contains xs v → (lower ≡ v) ⊎ Contains (rungs lower xs) v
units_are_levels lower v [] rising c = absurd (omega (arith, c.1))
units_are_levels lower v (x ∷ xs) rising c =
    ⊎_elim
    (λ (h : lower < x).
    let level : (x ≡ v) ⊎ Contains (rungs x xs) v =
    ⊎_elim (λ (e : x ≡ v). inl e) (λ (later : Contains xs v). units_are_levels x v xs rising.1 later) (contains_cases x v xs c) in
    rw (rungs_yes lower x xs h)
    (⊎_elim
    (λ (e : x ≡ v). inr (subst (Contains (x ∷ rungs x xs)) e (contains_first x (rungs x xs))))
    (λ (later : Contains (rungs x xs) v). inr (contains_later x v (rungs x xs) later))
    level))
    (λ (h : x ≤ lower).
    let same : x ≡ lower = omega (arith, rising.0) in
    rw (rungs_no lower x xs h)
    (⊎_elim
    (λ (e : x ≡ v). inl (sym same ∙ e))
    (λ (later : Contains xs v). units_are_levels lower v xs (subst (λ (y : ℕ). Rising y xs) same rising.1) later)
    (contains_cases x v xs c)))
    (cases_lt lower x)

rising_from : (lower : ℕ) (xs : List ℕ) → IsNonDecreasing (lower ∷ xs) → Rising lower xs
rising_from lower [] h = tt
rising_from lower (x ∷ xs) h = (h 0 1 0 (omega arith) (omega arith), rising_from x xs (IsNonDecreasingBy-drop (λ u. u) 1 (lower ∷ x ∷ xs) h))

-- ascending numbers rise from 0
pub rising_from_zero : (xs : List ℕ) → IsNonDecreasing xs → Rising 0 xs
rising_from_zero [] h = tt
rising_from_zero (x ∷ xs) h = (omega arith, rising_from x xs h)

-- 0 and the levels of the ordered units are the cut points
pub cut_points : (units ordered : List ℕ) → IsPermutation units ordered → IsNonDecreasing ordered →
    IsCutPoints units (0 ∷ rungs 0 ordered)
cut_points units ordered moved rises = record {
  ascending = rungs_rise 0 ordered;
  are = λ level. (
    λ (c : Contains (0 ∷ rungs 0 ordered) level).
        ⊎_elim (λ (e : 0 ≡ level). inl (sym e))
        (λ (later : Contains (rungs 0 ordered) level).
        inr (Contains-permutation ordered units level (IsPermutation-sym units ordered moved) (levels_are_units 0 level ordered later)))
        (contains_cases 0 level (rungs 0 ordered) c),
    λ (c : (level ≡ 0) ⊎ Contains units level).
        ⊎_elim (λ (e : level ≡ 0). subst (Contains (0 ∷ rungs 0 ordered)) (sym e) (contains_first 0 (rungs 0 ordered)))
        (λ (unit : Contains units level).
        ⊎_elim (λ (e : 0 ≡ level). subst (Contains (0 ∷ rungs 0 ordered)) e (contains_first 0 (rungs 0 ordered)))
        (λ (later : Contains (rungs 0 ordered) level). contains_later 0 level (rungs 0 ordered) later)
        (units_are_levels 0 level ordered (rising_from_zero ordered rises) (Contains-permutation units ordered level moved unit)))
        c,
  );
}
