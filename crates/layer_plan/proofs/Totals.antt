-- The layers of all units hold the units of all drives but one of most units.
use Rattle.std.proofs.Common.{◌≡◌, ℕ, ◌+◌, ◌<◌, ◌≤◌, List, [], ◌∷◌, length, get_or, slice_index, map, sum, count_by, cond, nat_le, sym, ◌∙◌, arith, All, Contains, IsPermutation, mul-zero}
use Rattle.std.specs.List.{range_with_len, IsFirstMaxByKey}
use Rattle.std.specs.List.Sorted.{IsNonDecreasing}
use Rattle.std.proofs.lemmas.List.{get_or_default}
use Rattle.std.proofs.lemmas.List.Sums.{length-filter}
use Rattle.std.proofs.lemmas.List.Elements.{All-nil, All-cons, All-contains, Contains-get_or}
use Rattle.std.proofs.lemmas.List.Sorted.{sum_by-IsPermutation, length_permutation, Contains-permutation, IsPermutation-sym}
use Rattle.layer_plan.specs.Slicing.{slicing_capacity}
use Rattle.layer_plan.specs.Layering.{places_reaching, array_of}
use Rattle.layer_plan.proofs.Sums.{sum_by_place}
use Rattle.layer_plan.proofs.CutPoints.{contains_first, contains_later, rising_from_zero}
use Rattle.layer_plan.proofs.Reached.{layers_above, Rising, top, capacity_above}

-- the last of an ascending list is one of it, and none is above it
top_is_one : (lower : ℕ) (xs : List ℕ) → Contains (lower ∷ xs) (top lower xs)
top_is_one lower [] = contains_first lower []
top_is_one lower (x ∷ xs) = contains_later lower (top x xs) (x ∷ xs) (top_is_one x xs)

top_is_high : (lower : ℕ) (xs : List ℕ) → Rising lower xs → lower ≤ top lower xs
top_is_high lower [] rising = omega arith
top_is_high lower (x ∷ xs) rising = omega (arith, rising.0, top_is_high x xs rising.1)

none_above_top : (lower : ℕ) (xs : List ℕ) → Rising lower xs → All (λ u. u ≤ top lower xs) (lower ∷ xs)
none_above_top lower [] rising = All-cons (λ u. u ≤ lower) lower [] (omega arith) (All-nil (λ u. u ≤ lower))
none_above_top lower (x ∷ xs) rising =
    All-cons (λ u. u ≤ top x xs) lower (x ∷ xs) (omega (arith, rising.0, top_is_high x xs rising.1)) (none_above_top x xs rising.1)

-- the last of the ordered units is that of a drive of most units
top_is_most : (units ordered : List ℕ) (spared : ℕ) → IsPermutation units ordered → Rising 0 ordered →
    IsFirstMaxByKey (λ own. own) units (length units) spared → top 0 ordered ≡ get_or units spared 0
top_is_most units [] spared moved rising most = absurd (omega (arith, length_permutation units [] moved, most.0))
top_is_most units (x ∷ xs) spared moved rising most =
    let own : Contains units (top x xs) = Contains-permutation (x ∷ xs) units (top x xs) (IsPermutation-sym units (x ∷ xs) moved) (top_is_one x xs) in
    let below : top x xs ≤ get_or units spared 0 =
    omega (arith, own.2, most.1 own.0 (top x xs) own.1, get_or_default units spared (top x xs) 0 most.0) in
    let other : Contains (x ∷ xs) (get_or units spared 0) =
    Contains-permutation units (x ∷ xs) (get_or units spared 0) moved (Contains-get_or units spared 0 most.0) in
    let above : get_or units spared 0 ≤ top x xs =
    All-contains (λ u. u ≤ top x xs) (x ∷ xs) (get_or units spared 0) (none_above_top x xs rising.1) other in
    omega arith

pub capacity_of_layers : (units ordered : List ℕ) (spared : ℕ) → IsPermutation units ordered → IsNonDecreasing ordered →
    IsFirstMaxByKey (λ own. own) units (length units) spared →
    slicing_capacity (map array_of (layers_above units 0 ordered)) + get_or units spared 0 ≡ sum units
capacity_of_layers units ordered spared moved rises most =
    let rising = rising_from_zero ordered rises in
    let counts : (level : ℕ) → 0 < level → length (places_reaching units level) ≡ count_by (λ u. nat_le level u) ordered =
    λ level above.
    length-filter (λ p. nat_le level (slice_index units p)) (range_with_len 0 (length units))
    ∙ sum_by_place (λ u. cond (nat_le level u) 1 0) units
    ∙ sym (sum_by-IsPermutation (λ u. cond (nat_le level u) 1 0) units ordered moved) in
    let whole = capacity_above units 0 ordered rising counts in
    let total : sum ordered ≡ sum units = sum_by-IsPermutation (λ u. u) units ordered moved in
    omega (arith, whole, total, top_is_most units ordered spared moved rising most, mul-zero (length ordered))
