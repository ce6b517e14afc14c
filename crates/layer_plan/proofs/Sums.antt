-- Sums over places.
use Rattle.std.proofs.Common.{◌≡◌, ℕ, zero, suc, ◌+◌, ◌<◌, ◌≤◌, List, [], ◌∷◌, length, get_or, map, sum_by, refl, sym, ap, ◌∙◌, arith, ◌⊎◌, ⊎_elim, inl, inr}
use Rattle.std.proofs.lemmas.Bool.{cases_order}
use Rattle.std.specs.List.{range_with_len}
use Rattle.std.proofs.lemmas.List.Sums.{sum_by-cons}
use Rattle.std.proofs.lemmas.List.FromFn.{fill_by_all}

-- a sum of equal terms is equal
pub sum_by_agree : {X : Type 0} (f g : X → ℕ) (xs : List X) → ((x : X) → f x ≡ g x) → sum_by f xs ≡ sum_by g xs
sum_by_agree f g [] same = refl
sum_by_agree f g (x ∷ xs) same =
    rw (sum_by-cons f x xs, sum_by-cons g x xs, same x, sum_by_agree f g xs same)

-- a sum of zeros
pub sum_by_zero : {X : Type 0} (xs : List X) → sum_by (λ (x : X). 0) xs ≡ 0
sum_by_zero [] = refl
sum_by_zero {X} (x ∷ xs) = rw (sum_by-cons (λ (x : X). 0) x xs, sum_by_zero xs)

-- a sum of sums
pub sum_by_add : {X : Type 0} (f g : X → ℕ) (xs : List X) → sum_by (λ x. f x + g x) xs ≡ sum_by f xs + sum_by g xs
sum_by_add f g [] = refl
sum_by_add f g (x ∷ xs) =
    rw (sum_by-cons (λ y. f y + g y) x xs, sum_by-cons f x xs, sum_by-cons g x xs, sum_by_add f g xs) (omega arith)

-- the order of a double sum does not matter
pub sum_by_swap : {X Y : Type 0} (f : X → Y → ℕ) (xs : List X) (ys : List Y) →
    sum_by (λ y. sum_by (λ x. f x y) xs) ys ≡ sum_by (λ x. sum_by (λ y. f x y) ys) xs
sum_by_swap f [] ys = sum_by_zero ys
sum_by_swap {X} {Y} f (x ∷ xs) ys =
    sum_by_agree (λ y. sum_by (λ z. f z y) (x ∷ xs)) (λ y. f x y + sum_by (λ z. f z y) xs) ys (λ y. sum_by-cons (λ z. f z y) x xs)
    ∙ sum_by_add (λ y. f x y) (λ y. sum_by (λ z. f z y) xs) ys
    ∙ ap (λ n. sum_by (λ y. f x y) ys + n) (sum_by_swap f xs ys)
    ∙ sym (sum_by-cons (λ z. sum_by (λ y. f z y) ys) x xs)

-- a sum over a mapped list
pub sum_by-map : {X Y : Type 0} (f : Y → ℕ) (g : X → Y) (xs : List X) → sum_by f (map g xs) ≡ sum_by (λ x. f (g x)) xs
sum_by-map f g [] = refl
sum_by-map f g (x ∷ xs) =
    rw (sum_by-cons f (g x) (map g xs), sum_by-cons (λ y. f (g y)) x xs, sum_by-map f g xs)

-- a list as its elements by place
pub by_place : (xs : List ℕ) → xs ≡ map (λ k. get_or xs k 0) (range_with_len 0 (length xs))
by_place xs = fill_by_all (λ k. get_or xs k 0) xs (length xs) 0 refl (λ k h. refl)

-- a sum over a list, by place
pub sum_by_place : (f : ℕ → ℕ) (xs : List ℕ) → sum_by (λ k. f (get_or xs k 0)) (range_with_len 0 (length xs)) ≡ sum_by f xs
sum_by_place f xs =
    sym (sum_by-map f (λ k. get_or xs k 0) (range_with_len 0 (length xs)))
    ∙ ap (sum_by f) (sym (by_place xs))

-- a number that isn't below another is that one or above it
pub at_or_above : (a s : ℕ) → a ≤ s → (a ≡ s) ⊎ (a < s)
at_or_above a s low =
    ⊎_elim (λ (e : a ≡ s). inl e) (λ r. inr (⊎_elim (λ (l : a < s). l) (λ (h : s < a). absurd (omega arith)) r)) (cases_order a s)

-- where each term of f is at most that of g, so is the sum
pub sum_by_below : (f g : ℕ → ℕ) (a n : ℕ) → ((k : ℕ) → a ≤ k → k < a + n → f k ≤ g k) →
    sum_by f (range_with_len a n) ≤ sum_by g (range_with_len a n)
sum_by_below f g a zero below = omega arith
sum_by_below f g a (suc n) below =
    let here : f a ≤ g a = below a (omega arith) (omega arith) in
    let rest : sum_by f (range_with_len (a + 1) n) ≤ sum_by g (range_with_len (a + 1) n) =
    sum_by_below f g (a + 1) n (λ k l h. below k (omega arith) (omega arith)) in
    rw (sum_by-cons f a (range_with_len (a + 1) n), sum_by-cons g a (range_with_len (a + 1) n)) (omega arith)

-- the same without any one term
pub sum_by_without : (f g : ℕ → ℕ) (a n s : ℕ) → ((k : ℕ) → a ≤ k → k < a + n → f k ≤ g k) → a ≤ s → s < a + n →
    sum_by f (range_with_len a n) + g s ≤ sum_by g (range_with_len a n) + f s
sum_by_without f g a zero s below low high = absurd (omega arith)
sum_by_without f g a (suc n) s below low high =
    let here : f a ≤ g a = below a (omega arith) (omega arith) in
    let rest : sum_by f (range_with_len (a + 1) n) ≤ sum_by g (range_with_len (a + 1) n) =
    sum_by_below f g (a + 1) n (λ k l h. below k (omega arith) (omega arith)) in
    rw (sum_by-cons f a (range_with_len (a + 1) n), sum_by-cons g a (range_with_len (a + 1) n))
    (⊎_elim
    (λ (e : a ≡ s). rw (← e) (omega arith))
    (λ (l : a < s).
    let later : sum_by f (range_with_len (a + 1) n) + g s ≤ sum_by g (range_with_len (a + 1) n) + f s =
    sum_by_without f g (a + 1) n s (λ k l h. below k (omega arith) (omega arith)) (omega arith) (omega arith) in
    omega arith)
    (at_or_above a s low))
