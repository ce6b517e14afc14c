-- Places of a list, and numbers of a range that pass.
use Rattle.std.proofs.Common.{◌≡◌, ℕ, zero, suc, ◌+◌, ◌<◌, ◌≤◌, Bool, true, false, ◌==◌, ◌||◌, not, if◌then◌else◌, List, [], ◌∷◌, count_by, filter, get_or, length, refl, ap, subst, ◌∙◌, inl, inr, eq-eqb, eqb-true, arith}
use Rattle.std.specs.List.{range_with_len}
use Rattle.std.proofs.lemmas.Bool.{both_ways, cases_Bool}
use Rattle.std.proofs.lemmas.List.Sums.{sum_by-cons}
use Rattle.new_array.specs.Supers.{has}

filtered_more : (q : ℕ → Bool) (a n p : ℕ) → (has (filter q (range_with_len (a + 1) n)) p ≡ true → (a + 1 ≤ p) × (p < a + 1 + n) × (q p ≡ true))
    → (b : Bool) → q a ≡ b → has (if b then a ∷ filter q (range_with_len (a + 1) n) else filter q (range_with_len (a + 1) n)) p ≡ true
    → (a ≤ p) × (p < a + suc n) × (q p ≡ true)
filtered_more q a n p rest false fails among = let later = rest among in (let low = later.0 in omega (arith, low), let high = later.1 in omega (arith, high), later.2)
filtered_more q a n p rest true passes among = elim (cases_Bool (a == p)) [
  | inl here ↦ let same = eqb-true a p here in (omega (arith, same), omega (arith, same), subst (λ k. q k ≡ true) same passes)
  | inr other ↦
      let later = rest (subst (λ b. (b || has (filter q (range_with_len (a + 1) n)) p) ≡ true) other among) in
      (let low = later.0 in omega (arith, low), let high = later.1 in omega (arith, high), later.2)
]

-- the numbers of a range that pass
pub filtered : (q : ℕ → Bool) (a n p : ℕ) → has (filter q (range_with_len a n)) p ≡ true → (a ≤ p) × (p < a + n) × (q p ≡ true)
filtered q a zero p is = absurd (both_ways false refl is)
filtered q a (suc n) p is = filtered_more q a n p (filtered q (a + 1) n p) (q a) refl is

-- as many pass as the range has at most
pub filter_few : (q : ℕ → Bool) (a n : ℕ) → length (filter q (range_with_len a n)) ≤ n
filter_few q a zero = omega arith
filter_few q a (suc n) = of (q a) (filter_few q (a + 1) n)
  where
    of : (b : Bool) → length (filter q (range_with_len (a + 1) n)) ≤ n → length (if b then a ∷ filter q (range_with_len (a + 1) n) else filter q (range_with_len (a + 1) n)) ≤ suc n
    of true few = omega (arith, few)
    of false few = omega (arith, few)

-- ---- places of a list, some of which pass

pub has_first : (x : ℕ) (xs : List ℕ) → has (x ∷ xs) x ≡ true
has_first x xs = ap (λ b. b || has xs x) (eq-eqb x x refl)

pub has_later : (x : ℕ) (xs : List ℕ) (p : ℕ) → has xs p ≡ true → has (x ∷ xs) p ≡ true
has_later x xs p among = ap (λ b. (x == p) || b) among ∙ or_true (x == p)
  where
    or_true : (b : Bool) → (b || true) ≡ true
    or_true true = refl
    or_true false = refl

-- an element is one of the list
pub element_has : (xs : List ℕ) (k : ℕ) → k < length xs → has xs (get_or xs k 0) ≡ true
element_has [] k low = absurd (omega (arith, low))
element_has (x ∷ xs) zero low = has_first x xs
element_has (x ∷ xs) (suc k) low = has_later x xs (get_or xs k 0) (element_has xs k (omega (arith, low)))

-- where fewer fail than there are, one passes
pub someone : (passes : ℕ → Bool) (xs : List ℕ) → count_by (λ p. not (passes p)) xs < length xs → (p : ℕ) × (has xs p ≡ true) × (passes p ≡ true)
someone passes [] few = absurd (omega (arith, few))
someone passes (x ∷ xs) few = elim (cases_Bool (passes x)) [
  | inl here ↦ (x, has_first x xs, here)
  | inr none ↦
      let count = sum_by-cons (λ p. if not (passes p) then 1 else 0) x xs ∙ ap (λ b. (if not b then 1 else 0) + count_by (λ p. not (passes p)) xs) none in
      let rest = someone passes xs (omega (arith, few, count)) in
      (rest.0, has_later x xs rest.0 rest.1, rest.2)
]
