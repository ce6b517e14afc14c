-- Lists of places.
use Rattle.std.proofs.Common.{◌≡◌, ℕ, zero, suc, ◌+◌, ◌<◌, ◌≤◌, Bool, true, false, ◌==◌, ◌&&◌, ◌||◌, cond, [], ◌∷◌, ◌++◌, filter, refl, sym, ap, ◌∙◌, inl, inr, arith, add-zero, eq-eqb, eqb-true}
use Rattle.std.proofs.lemmas.Bool.{both_ways, cases_eq, cases_lt, ne_eqb}
use Rattle.std.proofs.lemmas.List.Elements.{filter-append}
use Rattle.std.proofs.lemmas.Map.Views.{any-filter_same}
use Rattle.std.specs.List.{range_with_len}
use Rattle.log_laws.specs.View.{names, in_order}

-- one number more
range_more : (a n : ℕ) → range_with_len a (suc n) ≡ range_with_len a n ++ (a + n) ∷ []
range_more a zero = ap (λ k. k ∷ []) (sym (add-zero a))
range_more a (suc n) = ap (λ ks. a ∷ ks) (range_more (a + 1) n ∙ let e : a + 1 + n ≡ a + suc n = omega arith in ap (λ k. range_with_len (a + 1) n ++ k ∷ []) e)

filter_one : (f : ℕ → Bool) (k : ℕ) → filter f (k ∷ []) ≡ cond (f k) (k ∷ []) []
filter_one f k = refl

pub filter_more : (f : ℕ → Bool) (n : ℕ) → filter f (range_with_len 0 (n + 1)) ≡ filter f (range_with_len 0 n) ++ cond (f n) (n ∷ []) []
filter_more f n =
    let one : n + 1 ≡ suc n = omega arith in
    let same : 0 + n ≡ n = omega arith in
    ap (λ k. filter f (range_with_len 0 k)) one ∙ ap (filter f) (range_more 0 n ∙ ap (λ k. range_with_len 0 n ++ k ∷ []) same)
    ∙ filter-append f (range_with_len 0 n) (n ∷ [])

pub names_range : (a n p : ℕ) → a ≤ p → p < a + n → names (range_with_len a n) p ≡ true
names_range a zero p from below = absurd (omega arith)
names_range a (suc n) p from below =
    elim (cases_eq a p) [
      | inl here ↦ ap (λ b. b || names (range_with_len (a + 1) n) p) (eq-eqb a p here)
      | inr other ↦ or_true (a == p) (names (range_with_len (a + 1) n) p) (names_range (a + 1) n p (omega (arith, other)) (omega arith))
    ]
  where
    or_true : (b c : Bool) → c ≡ true → (b || c) ≡ true
    or_true true c is = refl
    or_true false c is = is

pub range_below : (a n p : ℕ) → names (range_with_len a n) p ≡ true → p < a + n
range_below a zero p named = absurd (both_ways false refl named)
range_below a (suc n) p named =
    elim (cases_eq a p) [
      | inl here ↦ omega (arith, here)
      | inr other ↦
          let later = range_below (a + 1) n p (sym (ap (λ b. b || names (range_with_len (a + 1) n) p) (ne_eqb a p other)) ∙ named) in
          omega (arith, later)
    ]

-- a list of the places below 16 that pass a test names just these
pub names_listed : (f : ℕ → Bool) → ((p : ℕ) → 16 ≤ p → f p ≡ false) → (p : ℕ) → names (filter f (range_with_len 0 16)) p ≡ f p
names_listed f none p =
    any-filter_same (λ q. q == p) f (f p) (λ q is. ap f (eqb-true q p is)) (range_with_len 0 16)
    ∙ elim (cases_lt p 16) [
      | inl below ↦ ap (λ b. f p && b) (names_range 0 16 p (omega arith) (omega arith)) ∙ and_true (f p)
      | inr past ↦ ap (λ b. b && names (range_with_len 0 16) p) (none p past) ∙ sym (none p past)
    ]
  where
    and_true : (b : Bool) → (b && true) ≡ b
    and_true true = refl
    and_true false = refl

-- and so it is in order
pub listed_in_order : (f : ℕ → Bool) → ((p : ℕ) → 16 ≤ p → f p ≡ false) → filter f (range_with_len 0 16) ≡ in_order (filter f (range_with_len 0 16))
listed_in_order f none =
    let same : names (filter f (range_with_len 0 16)) ≡ f = λ i p. names_listed f none p i in
    sym (ap (λ (g : ℕ → Bool). filter g (range_with_len 0 16)) same)
