-- No slicing holds more than the units of all drives but any one of them: of each array at most that one
-- member is dropped, and what the arrays take of each other drive is at most what it has.
use Rattle.std.proofs.Common.{◌≡◌, ℕ, zero, suc, ◌+◌, ◌-◌, ◌*◌, ◌<◌, ◌≤◌, List, [], ◌∷◌, length, get_or, sum, sum_by, true, false, ◌==◌, if◌then◌else◌, refl, sym, subst, ◌∙◌, arith, ⊎_elim, All, suc-mul, eqb-true, zero-mul}
use Rattle.std.specs.List.{range_with_len, IsDistinct, AllByRecursion}
use Rattle.std.proofs.lemmas.Bool.{cases_Bool, cond_both, ne_eqb, eq-eqb, eqb-false}
use Rattle.std.proofs.lemmas.List.Sums.{sum_by-cons}
use Rattle.std.proofs.lemmas.List.Elements.{All-head, All-tail}
use Rattle.layer_plan.specs.Slicing.{Array, IsRedundant, IsSlicing, has, height_on, load, array_capacity, slicing_capacity}
use Rattle.layer_plan.proofs.Sums.{sum_by_agree, sum_by_zero, sum_by_add, sum_by_swap, sum_by_place, sum_by_without, at_or_above}

-- one member's height is what a capacity leaves out
one_less : (k h t : ℕ) → 2 ≤ k → t ≤ h → (k - 1) * h + t ≤ k * h
one_less zero h t pair one = absurd (omega arith)
one_less (suc k) h t pair one =
    let other : suc k - 1 ≡ k = omega arith in
    rw (other, suc-mul) (omega arith)

-- a member that differs from all others isn't among them
pub not_among : (x : ℕ) (members : List ℕ) → AllByRecursion (λ y. (x == y) ≡ false) members → has members x ≡ false
not_among x [] others = refl
not_among x (y ∷ ys) others =
    let differs : (y == x) ≡ false = ne_eqb y x (λ e. eqb-false x y others.0 (sym e)) in
    rw (differs, not_among x ys others.1)

-- what a member past the start of a range of places gives over that range
no_place : (x h a n : ℕ) → x < a → sum_by (λ p. if (x == p) then h else 0) (range_with_len a n) ≡ 0
no_place x h a zero below = refl
no_place x h a (suc n) below =
    let other : (x == a) ≡ false = ne_eqb x a (λ e. absurd (omega arith)) in
    let rest : sum_by (λ p. if (x == p) then h else 0) (range_with_len (a + 1) n) ≡ 0 = no_place x h (a + 1) n (omega arith) in
    rw (sum_by-cons (λ p. if (x == p) then h else 0) a (range_with_len (a + 1) n), other) (omega arith)

-- what a member inside a range of places gives over that range
one_place : (x h a n : ℕ) → a ≤ x → x < a + n → sum_by (λ p. if (x == p) then h else 0) (range_with_len a n) ≡ h
one_place x h a zero low high = absurd (omega arith)
one_place x h a (suc n) low high =
    ⊎_elim
    (λ (e : a ≡ x).
    let same : (x == a) ≡ true = eq-eqb x a (sym e) in
    let rest : sum_by (λ p. if (x == p) then h else 0) (range_with_len (a + 1) n) ≡ 0 = no_place x h (a + 1) n (omega arith) in
    rw (sum_by-cons (λ p. if (x == p) then h else 0) a (range_with_len (a + 1) n), same, rest) (omega arith))
    (λ (l : a < x).
    let other : (x == a) ≡ false = ne_eqb x a (λ e. absurd (omega arith)) in
    let rest : sum_by (λ p. if (x == p) then h else 0) (range_with_len (a + 1) n) ≡ h =
    one_place x h (a + 1) n (omega arith) (omega arith) in
    rw (sum_by-cons (λ p. if (x == p) then h else 0) a (range_with_len (a + 1) n), other) (omega arith))
    (at_or_above a x low)

-- a first member that isn't among the others takes its height beside theirs
taken_beside : (x h p : ℕ) (members : List ℕ) → has members x ≡ false →
    (if has (x ∷ members) p then h else 0) ≡ (if (x == p) then h else 0) + (if has members p then h else 0)
taken_beside x h p members apart =
    ⊎_elim
    (λ (e : (x == p) ≡ true).
    let here : has members p ≡ false = subst (λ (y : ℕ). has members y ≡ false) (eqb-true x p e) apart in
    rw (e, here) (omega arith))
    (λ (e : (x == p) ≡ false). rw e (omega arith))
    (cases_Bool (x == p))

-- over all places an array takes its height once for each member
pub taken_in_all : (n h : ℕ) (members : List ℕ) → IsDistinct (λ a b. a == b) members → All (λ p. p < n) members →
    sum_by (λ p. if has members p then h else 0) (range_with_len 0 n) ≡ length members * h
unfolding IsDistinct
taken_in_all n h [] distinct places = sum_by_zero (range_with_len 0 n) ∙ sym (zero-mul h)
taken_in_all n h (x ∷ xs) distinct places =
    let apart : has xs x ≡ false = not_among x xs distinct.0 in
    let inside : x < n = All-head (λ p. p < n) x xs places in
    let here : sum_by (λ p. if (x == p) then h else 0) (range_with_len 0 n) ≡ h = one_place x h 0 n (omega arith) (omega arith) in
    let rest : sum_by (λ p. if has xs p then h else 0) (range_with_len 0 n) ≡ length xs * h =
    taken_in_all n h xs distinct.1 (All-tail (λ p. p < n) x xs places) in
    let split = sum_by_agree (λ p. if has (x ∷ xs) p then h else 0) (λ p. (if (x == p) then h else 0) + (if has xs p then h else 0))
    (range_with_len 0 n) (λ p. taken_beside x h p xs apart)
    ∙ sum_by_add (λ p. if (x == p) then h else 0) (λ p. if has xs p then h else 0) (range_with_len 0 n) in
    split ∙ rw (here, rest, suc-mul) (omega arith)

-- of an array, what one drive gives and its capacity are at most what it takes in all
pub capacity_of_one : (n s : ℕ) (array : Array) → IsRedundant n array →
    array_capacity array + height_on array s ≤ sum_by (λ p. height_on array p) (range_with_len 0 n)
capacity_of_one n s array r =
    let all : sum_by (λ p. height_on array p) (range_with_len 0 n) ≡ length array.members * array.height =
    taken_in_all n array.height array.members r.distinct r.places in
    let one : height_on array s ≤ array.height =
    cond_both (has array.members s) array.height 0 (λ t. t ≤ array.height) (λ e. omega arith) (λ e. omega arith) in
    rw all (one_less (length array.members) array.height (height_on array s) r.pair one)

-- the same of all arrays
pub capacity_of_all : (n s : ℕ) (arrays : List Array) → All (IsRedundant n) arrays →
    slicing_capacity arrays + load arrays s ≤ sum_by (λ array. sum_by (λ p. height_on array p) (range_with_len 0 n)) arrays
capacity_of_all n s [] r = omega arith
capacity_of_all n s (array ∷ arrays) r =
    let here = capacity_of_one n s array (All-head (IsRedundant n) array arrays r) in
    let rest = capacity_of_all n s arrays (All-tail (IsRedundant n) array arrays r) in
    rw (
      sum_by-cons array_capacity array arrays,
      sum_by-cons (λ a. height_on a s) array arrays,
      sum_by-cons (λ a. sum_by (λ p. height_on a p) (range_with_len 0 n)) array arrays,
    )
    (omega arith)

-- no slicing holds more than all drives but one have
pub within_bound : (units : List ℕ) (arrays : List Array) (s : ℕ) → s < length units → IsSlicing units arrays →
    slicing_capacity arrays + get_or units s 0 ≤ sum units
within_bound units arrays s inside slicing =
    let counted = capacity_of_all (length units) s arrays slicing.redundant in
    let swapped : sum_by (λ p. load arrays p) (range_with_len 0 (length units))
    ≡ sum_by (λ array. sum_by (λ p. height_on array p) (range_with_len 0 (length units))) arrays =
    sum_by_swap (λ (array : Array) (p : ℕ). height_on array p) arrays (range_with_len 0 (length units)) in
    let spared : sum_by (λ p. load arrays p) (range_with_len 0 (length units)) + get_or units s 0
    ≤ sum_by (λ p. get_or units p 0) (range_with_len 0 (length units)) + load arrays s =
    sum_by_without (λ p. load arrays p) (λ p. get_or units p 0) 0 (length units) s
    (λ p l h. slicing.fits p (omega arith)) (omega arith) (omega arith) in
    let all : sum_by (λ p. get_or units p 0) (range_with_len 0 (length units)) ≡ sum units = sum_by_place (λ x. x) units in
    omega arith
