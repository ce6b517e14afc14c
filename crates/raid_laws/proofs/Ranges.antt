-- Tests over the first numbers.
use Rattle.std.proofs.Common.{◌≡◌, ℕ, zero, suc, ◌+◌, ◌<◌, ◌≤◌, Bool, true, false, ◌||◌, refl, sym, ap, ◌∙◌, inl, inr, arith}
use Rattle.std.proofs.lemmas.Bool.{cases_Bool, cases_eq, both_ways}
use Rattle.std.specs.List.{list_any, range_with_len}

or_right : (b c : Bool) → c ≡ true → (b || c) ≡ true
or_right true c is = refl
or_right false c is = is

-- one that passes
pub any_some : (f : ℕ → Bool) (a k : ℕ) → list_any f (range_with_len a k) ≡ true → (n : ℕ) × (a ≤ n) × (n < a + k) × (f n ≡ true)
any_some f a zero is = absurd (both_ways false refl is)
any_some f a (suc k) is =
    elim (cases_Bool (f a)) [
      | inl here ↦ (a, omega arith, omega arith, here)
      | inr none ↦
          let later = any_some f (a + 1) k (sym (ap (λ b. b || list_any f (range_with_len (a + 1) k)) none) ∙ is) in
          let low = later.1 in let high = later.2 in
          (later.0, omega (arith, low), omega (arith, high), later.3)
    ]

-- and one that passes is found
pub any_from : (f : ℕ → Bool) (a k n : ℕ) → a ≤ n → n < a + k → f n ≡ true → list_any f (range_with_len a k) ≡ true
any_from f a zero n low high is = absurd (omega (arith, low, high))
any_from f a (suc k) n low high is =
    elim (cases_eq a n) [
      | inl here ↦ ap (λ b. b || list_any f (range_with_len (a + 1) k)) (ap f here ∙ is)
      | inr other ↦ or_right (f a) (list_any f (range_with_len (a + 1) k)) (any_from f (a + 1) k n (omega (arith, low, other)) (omega (arith, high)) is)
    ]

-- none that passes
pub any_none : (f : ℕ → Bool) (a k n : ℕ) → list_any f (range_with_len a k) ≡ false → a ≤ n → n < a + k → f n ≡ false
any_none f a k n none low high =
    elim (cases_Bool (f n)) [
      | inl is ↦ absurd (both_ways (list_any f (range_with_len a k)) none (any_from f a k n low high is))
      | inr not ↦ not
    ]

-- a test that passes wherever another does
pub any_wider : (f g : ℕ → Bool) (a k : ℕ) → ((n : ℕ) → a ≤ n → n < a + k → f n ≡ true → g n ≡ true)
    → list_any f (range_with_len a k) ≡ true → list_any g (range_with_len a k) ≡ true
any_wider f g a k wider is =
    let at = any_some f a k is in
    any_from g a k at.0 at.1 at.2 (wider at.0 at.1 at.2 at.3)

pub none_narrower : (f g : ℕ → Bool) (a k : ℕ) → ((n : ℕ) → a ≤ n → n < a + k → f n ≡ true → g n ≡ true)
    → list_any g (range_with_len a k) ≡ false → list_any f (range_with_len a k) ≡ false
none_narrower f g a k wider none =
    elim (cases_Bool (list_any f (range_with_len a k))) [
      | inl is ↦ absurd (both_ways (list_any g (range_with_len a k)) none (any_wider f g a k wider is))
      | inr not ↦ not
    ]
