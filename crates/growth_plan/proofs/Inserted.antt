-- A place among others in ascending order.
use Rattle.std.proofs.Common.{◌≡◌, ℕ, zero, suc, ◌+◌, ◌<◌, ◌≤◌, ◌||◌, ◌==◌, Bool, true, false, nat_lt, List, [], ◌∷◌, ◌++◌, length, filter, IsPermutation, refl, sym, ap, ◌∙◌, arith, ⊎_elim}
use Rattle.std.specs.List.{range_with_len}
use Rattle.std.proofs.lemmas.Bool.{cases_Bool, cases_lt, cond_both, lt-ltb, le-ltb, eq-eqb, ne_eqb, or_left, or_right}
use Rattle.std.proofs.lemmas.List.Sorted.{IsPermutation-refl, IsPermutation-cons, IsPermutation-to_front}
use Rattle.layer_plan.specs.Slicing.{has}
use Rattle.growth_plan.specs.Doing.{inserted}

-- the first of three drives takes the part of a smaller one and joins an array of the two others
first_joins : inserted 0 (1 ∷ 2 ∷ []) ≡ 0 ∷ 1 ∷ 2 ∷ []
first_joins = refl

-- the place is one of them then
pub has_inserted : (place : ℕ) (places : List ℕ) → has (inserted place places) place ≡ true
has_inserted place [] = or_left (place == place) false (eq-eqb place place refl)
has_inserted place (p ∷ places) =
    cond_both (nat_lt place p) (place ∷ p ∷ places) (p ∷ inserted place places) (λ ps. has ps place ≡ true)
    (λ e. or_left (place == place) (has (p ∷ places) place) (eq-eqb place place refl))
    (λ e. or_right (p == place) (has (inserted place places) place) (has_inserted place places))

-- there is one place more
pub count_inserted : (place : ℕ) (places : List ℕ) → length (inserted place places) ≡ length places + 1
count_inserted place [] = refl
count_inserted place (p ∷ places) =
    let rest = count_inserted place places in
    cond_both (nat_lt place p) (place ∷ p ∷ places) (p ∷ inserted place places) (λ ps. length ps ≡ length (p ∷ places) + 1)
    (λ e. omega arith) (λ e. omega (arith, rest))

-- whatever their order, they are those places and this one
pub permuted : (place : ℕ) (places : List ℕ) → IsPermutation (places ++ place ∷ []) (inserted place places)
permuted place [] = IsPermutation-refl (place ∷ [])
permuted place (p ∷ places) =
    cond_both (nat_lt place p) (place ∷ p ∷ places) (p ∷ inserted place places) (λ ps. IsPermutation (p ∷ (places ++ place ∷ [])) ps)
    (λ e. IsPermutation-to_front (p ∷ places) place)
    (λ e. IsPermutation-cons p (places ++ place ∷ []) (inserted place places) (permuted place places))

-- ---- among those of a range that pass a test

low : (q : ℕ → Bool) (place a n : ℕ) → place < a → inserted place (filter q (range_with_len a n)) ≡ place ∷ filter q (range_with_len a n)
low q place a zero under = refl
low q place a (suc n) under =
    let before : nat_lt place a ≡ true = lt-ltb place a under in
    cond_both (q a) (a ∷ filter q (range_with_len (a + 1) n)) (filter q (range_with_len (a + 1) n)) (λ ps. inserted place ps ≡ place ∷ ps)
    (λ e. rw before refl) (λ e. low q place (a + 1) n (omega arith))

others : (q : ℕ → Bool) (place a n : ℕ) → place < a → filter (λ k. q k || (k == place)) (range_with_len a n) ≡ filter q (range_with_len a n)
others q place a zero under = refl
others q place a (suc n) under =
    let other : (a == place) ≡ false = ne_eqb a place (λ e. absurd (omega arith)) in
    let rest = others q place (a + 1) n (omega arith) in
    ⊎_elim
    (λ (yes : q a ≡ true). rw yes (ap (λ (ps : List ℕ). a ∷ ps) rest))
    (λ (no : q a ≡ false). rw (no, other) rest)
    (cases_Bool (q a))

-- so the list with the place is of those that pass or are that place
pub inserted_range : (q : ℕ → Bool) (place a n : ℕ) → q place ≡ false → a ≤ place → place < a + n →
    inserted place (filter q (range_with_len a n)) ≡ filter (λ k. q k || (k == place)) (range_with_len a n)
inserted_range q place a zero out from below = absurd (omega arith)
inserted_range q place a (suc n) out from below =
    ⊎_elim
    (λ (past : a < place).
    let other : (a == place) ≡ false = ne_eqb a place (λ e. absurd (omega arith)) in
    let behind : nat_lt place a ≡ false = le-ltb place a (omega arith) in
    let rest = inserted_range q place (a + 1) n out (omega arith) (omega arith) in
    ⊎_elim
    (λ (yes : q a ≡ true). rw (yes, behind) (ap (λ (ps : List ℕ). a ∷ ps) rest))
    (λ (no : q a ≡ false). rw (no, other) rest)
    (cases_Bool (q a)))
    (λ (here : place ≤ a).
    let same : a ≡ place = omega arith in
    let is : (a == place) ≡ true = eq-eqb a place same in
    let no : q a ≡ false = ap q same ∙ out in
    rw (no, is)
    (low q place (a + 1) n (omega arith) ∙ ap (λ (k : ℕ). k ∷ filter q (range_with_len (a + 1) n)) (sym same)
    ∙ ap (λ (ps : List ℕ). a ∷ ps) (sym (others q place (a + 1) n (omega arith)))))
    (cases_lt a place)
