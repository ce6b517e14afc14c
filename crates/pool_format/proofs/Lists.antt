-- Places of a list, and elements by their number.
use Rattle.std.proofs.Common.{◌≡◌, ◌⊎◌, ◌++◌, unwrap_or, ℕ, zero, suc, ◌+◌, ◌<◌, ◌≤◌, true, ◌||◌, List, [], ◌∷◌, drop, length, slice_get, Some, None, refl, ap, ◌∙◌, inl, inr, eq-eqb, arith}
use Rattle.pool_format.specs.Plan.{has}

pub got : {X : Type 0} (xs : List X) (n : ℕ) → n < length xs → (x : X) × (slice_get xs n ≡ Some x)
got [] n below = absurd (omega (arith, below))
got (x ∷ xs) zero below = (x, refl)
got (x ∷ xs) (suc n) below = got xs n (omega (arith, below))

pub no_element : {X : Type 0} {x : X} → None ≡ Some x → ⊥
no_element same = cc

-- the first of some numbers is one of them
pub first_has : (xs : List ℕ) → 0 < length xs → (p : ℕ) × (has xs p ≡ true)
first_has [] some = absurd (omega (arith, some))
first_has (x ∷ xs) some = (x, ap (λ b. b || has xs x) (eq-eqb x x refl))

-- an element of a longer list is one of the list, or the last
pub got_more : {X : Type 0} (xs : List X) (x : X) (n : ℕ) (v : X) → slice_get (xs ++ x ∷ []) n ≡ Some v → (slice_get xs n ≡ Some v) ⊎ (x ≡ v)
got_more [] x zero v is = inr (ap (λ o. unwrap_or o x) is)
got_more [] x (suc n) v is = absurd (no_element is)
got_more (y ∷ ys) x zero v is = inl is
got_more (y ∷ ys) x (suc n) v is = got_more ys x n v is

-- ---- lists that a loop makes, one element after the other

pub snoc_append : {X : Type 0} (xs : List X) (y : X) (ys : List X) → (xs ++ y ∷ []) ++ ys ≡ xs ++ y ∷ ys
snoc_append [] y ys = refl
snoc_append (x ∷ xs) y ys = ap (λ zs. x ∷ zs) (snoc_append xs y ys)

pub append_none : {X : Type 0} (xs : List X) → xs ++ [] ≡ xs
append_none [] = refl
append_none (x ∷ xs) = ap (λ zs. x ∷ zs) (append_none xs)

drop_suc : {X : Type 0} (xs : List X) (n : ℕ) (x : X) → slice_get xs n ≡ Some x → drop n xs ≡ x ∷ drop (suc n) xs
drop_suc [] n x is = absurd (no_element is)
drop_suc (y ∷ ys) zero x is = ap (λ z. z ∷ ys) (ap (λ o. unwrap_or o y) is)
drop_suc (y ∷ ys) (suc n) x is = drop_suc ys n x is

pub drop_at : {X : Type 0} (xs : List X) (n : ℕ) (x : X) → slice_get xs n ≡ Some x → drop n xs ≡ x ∷ drop (n + 1) xs
drop_at xs n x is = let next : suc n ≡ n + 1 = omega arith in drop_suc xs n x is ∙ ap (λ k. x ∷ drop k xs) next

pub drop_past : {X : Type 0} (xs : List X) (n : ℕ) → length xs ≤ n → drop n xs ≡ []
drop_past [] zero past = refl
drop_past [] (suc n) past = refl
drop_past (x ∷ xs) zero past = absurd (omega (arith, past))
drop_past (x ∷ xs) (suc n) past = drop_past xs n (omega (arith, past))

pub length_snoc : {X : Type 0} (xs : List X) (y : X) → length (xs ++ y ∷ []) ≡ length xs + 1
length_snoc [] y = refl
length_snoc (x ∷ xs) y = ap suc (length_snoc xs y) ∙ omega arith
