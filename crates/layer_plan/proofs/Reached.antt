-- The layers of an ascending list of units: they are a slicing, and they hold all but the most units.
use Rattle.std.proofs.Common.{◌≡◌, ℕ, zero, suc, ◌+◌, ◌-◌, ◌*◌, ◌<◌, ◌≤◌, List, [], ◌∷◌, length, slice_index, filter, map, sum, sum_by, count_by, Bool, true, false, cond, if◌then◌else◌, nat_lt, nat_le, ◌==◌, refl, sym, subst, ap, ◌∙◌, arith, ⊎_elim, All, suc-mul, mul-add}
use Rattle.std.specs.Prelude.{⊤}
use Rattle.std.specs.List.{range_with_len, IsDistinct, AllByRecursion}
use Rattle.std.proofs.lemmas.Bool.{cases_lt, cond_both, ne_eqb, eq-eqb, lt-ltb, le-ltb, le-leb, lt-leb, leb-true, leb-false}
use Rattle.std.proofs.lemmas.List.Sums.{sum_by-cons}
use Rattle.std.proofs.lemmas.List.Elements.{All-nil, All-cons}
use Rattle.layer_plan.specs.declared.Layer.{Layer}
use Rattle.layer_plan.specs.Slicing.{IsRedundant, has, height_on, load, array_capacity, slicing_capacity}
use Rattle.layer_plan.specs.Layering.{places_reaching, layer_between, layers_between, is_redundant, array_of}
use Rattle.layer_plan.proofs.Sums.{at_or_above}

-- the levels above `lower` in an ascending list, each once
abbrev pub rungs : ℕ → List ℕ → List ℕ
rungs lower [] = []
rungs lower (x ∷ xs) = if nat_lt lower x then x ∷ rungs x xs else rungs lower xs

-- the layers above a level
abbrev pub layers_above : List ℕ → ℕ → List ℕ → List Layer
layers_above units lower xs = layers_between units (lower ∷ rungs lower xs)

pub layers_above_yes : (units : List ℕ) (lower x : ℕ) (xs : List ℕ) → lower < x →
    layers_above units lower (x ∷ xs)
    ≡ cond (is_redundant (layer_between units (lower, x))) (layer_between units (lower, x) ∷ layers_above units x xs) (layers_above units x xs)
layers_above_yes units lower x xs h =
    let rises : nat_lt lower x ≡ true = lt-ltb lower x h in rw rises

pub layers_above_no : (units : List ℕ) (lower x : ℕ) (xs : List ℕ) → x ≤ lower →
    layers_above units lower (x ∷ xs) ≡ layers_above units lower xs
layers_above_no units lower x xs h =
    let stays : nat_lt lower x ≡ false = le-ltb lower x h in rw stays

-- no place below a range is among those of it that pass a test
none_below : (q : ℕ → Bool) (a n p : ℕ) → p < a → has (filter q (range_with_len a n)) p ≡ false
none_below q a zero p below = refl
none_below q a (suc n) p below =
    let other : (a == p) ≡ false = ne_eqb a p (λ e. absurd (omega arith)) in
    let rest : has (filter q (range_with_len (a + 1) n)) p ≡ false = none_below q (a + 1) n p (omega arith) in
    cond_both (q a) (a ∷ filter q (range_with_len (a + 1) n)) (filter q (range_with_len (a + 1) n)) (λ t. has t p ≡ false)
    (λ e. rw (other, rest)) (λ e. rest)

-- a place of a range is among those that pass a test where it passes
pub has_range : (q : ℕ → Bool) (a n p : ℕ) → a ≤ p → p < a + n → has (filter q (range_with_len a n)) p ≡ q p
has_range q a zero p low high = absurd (omega arith)
has_range q a (suc n) p low high =
    ⊎_elim
    (λ (e : a ≡ p).
    let same : (a == p) ≡ true = eq-eqb a p e in
    let rest : has (filter q (range_with_len (a + 1) n)) p ≡ false = none_below q (a + 1) n p (omega arith) in
    cond_both (q a) (a ∷ filter q (range_with_len (a + 1) n)) (filter q (range_with_len (a + 1) n)) (λ t. has t p ≡ q p)
    (λ t. rw same (sym t ∙ ap q e)) (λ t. rest ∙ sym t ∙ ap q e))
    (λ (l : a < p).
    let other : (a == p) ≡ false = ne_eqb a p (λ e. absurd (omega arith)) in
    let rest : has (filter q (range_with_len (a + 1) n)) p ≡ q p = has_range q (a + 1) n p (omega arith) (omega arith) in
    cond_both (q a) (a ∷ filter q (range_with_len (a + 1) n)) (filter q (range_with_len (a + 1) n)) (λ t. has t p ≡ q p)
    (λ t. rw other rest) (λ t. rest))
    (at_or_above a p low)

-- the places of a range that pass a test differ
apart : (q : ℕ → Bool) (b a n : ℕ) → b < a → AllByRecursion (λ y. (b == y) ≡ false) (filter q (range_with_len a n))
apart q b a zero below = tt
apart q b a (suc n) below =
    let other : (b == a) ≡ false = ne_eqb b a (λ e. absurd (omega arith)) in
    let rest = apart q b (a + 1) n (omega arith) in
    cond_both (q a) (a ∷ filter q (range_with_len (a + 1) n)) (filter q (range_with_len (a + 1) n))
    (λ t. AllByRecursion (λ y. (b == y) ≡ false) t) (λ e. (other, rest)) (λ e. rest)

pub distinct_range : (q : ℕ → Bool) (a n : ℕ) → IsDistinct (λ a b. a == b) (filter q (range_with_len a n))
unfolding IsDistinct
distinct_range q a zero = tt
distinct_range q a (suc n) =
    let rest = distinct_range q (a + 1) n in
    cond_both (q a) (a ∷ filter q (range_with_len (a + 1) n)) (filter q (range_with_len (a + 1) n))
    (λ t. IsDistinct (λ a b. a == b) t) (λ e. (apart q a (a + 1) n (omega arith), rest)) (λ e. rest)

-- they are inside it
pub inside_range : (q : ℕ → Bool) (a n m : ℕ) → a + n ≤ m → All (λ p. p < m) (filter q (range_with_len a n))
inside_range q a zero m end = All-nil (λ p. p < m)
inside_range q a (suc n) m end =
    let rest = inside_range q (a + 1) n m (omega arith) in
    cond_both (q a) (a ∷ filter q (range_with_len (a + 1) n)) (filter q (range_with_len (a + 1) n))
    (λ t. All (λ p. p < m) t) (λ e. All-cons (λ p. p < m) a (filter q (range_with_len (a + 1) n)) (omega arith) rest) (λ e. rest)

-- a layer that has two members is a redundant array
layer_is_redundant : (units : List ℕ) (lower upper : ℕ) → is_redundant (layer_between units (lower, upper)) ≡ true →
    IsRedundant (length units) (array_of (layer_between units (lower, upper)))
layer_is_redundant units lower upper e = record {
  distinct = distinct_range (λ p. nat_le upper (slice_index units p)) 0 (length units);
  places = inside_range (λ p. nat_le upper (slice_index units p)) 0 (length units) (length units) (omega arith);
  pair = leb-true 2 (length (places_reaching units upper)) e;
}

pub layers_redundant : (units : List ℕ) (lower : ℕ) (xs : List ℕ) →
    All (IsRedundant (length units)) (map array_of (layers_above units lower xs))
layers_redundant units lower [] = All-nil (IsRedundant (length units))
layers_redundant units lower (x ∷ xs) =
    ⊎_elim
    (λ (h : lower < x).
    let rest = layers_redundant units x xs in
    rw (layers_above_yes units lower x xs h)
    (cond_both (is_redundant (layer_between units (lower, x))) (layer_between units (lower, x) ∷ layers_above units x xs) (layers_above units x xs)
    (λ t. All (IsRedundant (length units)) (map array_of t))
    (λ e. All-cons (IsRedundant (length units)) (array_of (layer_between units (lower, x))) (map array_of (layers_above units x xs))
    (layer_is_redundant units lower x e) rest)
    (λ e. rest)))
    (λ (h : x ≤ lower). rw (layers_above_no units lower x xs h) (layers_redundant units lower xs))
    (cases_lt lower x)

-- what a layer takes of a drive
layer_takes : (units : List ℕ) (lower upper p : ℕ) → p < length units → lower < upper →
    height_on (array_of (layer_between units (lower, upper))) p + (slice_index units p - upper) ≤ slice_index units p - lower
layer_takes units lower upper p inside rising =
    let member : has (places_reaching units upper) p ≡ nat_le upper (slice_index units p) =
    has_range (λ k. nat_le upper (slice_index units k)) 0 (length units) p (omega arith) (omega arith) in
    rw member
    (cond_both (nat_le upper (slice_index units p)) (upper - lower) 0
    (λ t. t + (slice_index units p - upper) ≤ slice_index units p - lower)
    (λ e. let high : upper ≤ slice_index units p = leb-true upper (slice_index units p) e in omega arith)
    (λ e. let low : slice_index units p < upper = leb-false upper (slice_index units p) e in omega arith))

-- the layers above a level take of each drive at most what it has above that level
pub layers_fit : (units : List ℕ) (lower : ℕ) (xs : List ℕ) (p : ℕ) → p < length units →
    load (map array_of (layers_above units lower xs)) p ≤ slice_index units p - lower
layers_fit units lower [] p inside = omega arith
layers_fit units lower (x ∷ xs) p inside =
    ⊎_elim
    (λ (h : lower < x).
    let rest : load (map array_of (layers_above units x xs)) p ≤ slice_index units p - x = layers_fit units x xs p inside in
    let here = layer_takes units lower x p inside h in
    rw (layers_above_yes units lower x xs h)
    (cond_both (is_redundant (layer_between units (lower, x))) (layer_between units (lower, x) ∷ layers_above units x xs) (layers_above units x xs)
    (λ t. load (map array_of t) p ≤ slice_index units p - lower)
    (λ e. rw (sum_by-cons (λ a. height_on a p) (array_of (layer_between units (lower, x))) (map array_of (layers_above units x xs)))
    (omega arith))
    (λ e. omega arith)))
    (λ (h : x ≤ lower). rw (layers_above_no units lower x xs h) (layers_fit units lower xs p inside))
    (cases_lt lower x)

-- what the layers offer is their capacity
pub extents_above : (units : List ℕ) (lower : ℕ) (xs : List ℕ) →
    sum_by (λ (layer : Layer). layer.extents) (layers_above units lower xs) ≡ slicing_capacity (map array_of (layers_above units lower xs))
extents_above units lower [] = refl
extents_above units lower (x ∷ xs) =
    ⊎_elim
    (λ (h : lower < x).
    let rest = extents_above units x xs in
    rw (layers_above_yes units lower x xs h)
    (cond_both (is_redundant (layer_between units (lower, x))) (layer_between units (lower, x) ∷ layers_above units x xs) (layers_above units x xs)
    (λ t. sum_by (λ (layer : Layer). layer.extents) t ≡ slicing_capacity (map array_of t))
    (λ e. rw (
      sum_by-cons (λ (layer : Layer). layer.extents) (layer_between units (lower, x)) (layers_above units x xs),
      sum_by-cons array_capacity (array_of (layer_between units (lower, x))) (map array_of (layers_above units x xs)),
      rest,
    ))
    (λ e. rest)))
    (λ (h : x ≤ lower). rw (layers_above_no units lower x xs h) (extents_above units lower xs))
    (cases_lt lower x)

-- an ascending list with nothing below `lower`
abbrev pub Rising : ℕ → List ℕ → Type 0
Rising lower [] = ⊤
Rising lower (x ∷ xs) = (lower ≤ x) × Rising x xs

-- its last element, or `lower`
abbrev pub top : ℕ → List ℕ → ℕ
top lower [] = lower
top lower (x ∷ xs) = top x xs

all_reach : (level lower : ℕ) (xs : List ℕ) → level ≤ lower → Rising lower xs → count_by (λ u. nat_le level u) xs ≡ length xs
all_reach level lower [] low rising = refl
all_reach level lower (x ∷ xs) low rising =
    let passes : nat_le level x ≡ true = le-leb level x (omega (arith, rising.0)) in
    let rest : count_by (λ u. nat_le level u) xs ≡ length xs = all_reach level x xs (omega (arith, rising.0)) rising.1 in
    rw (sum_by-cons (λ u. cond (nat_le level u) 1 0) x xs, passes) (omega arith)

-- heights of a step and below it
parted : (m lower x : ℕ) → lower ≤ x → m * (x - lower) + m * lower ≡ m * x
parted m lower x h =
    let whole : (x - lower) + lower ≡ x = omega arith in
    sym (mul-add m (x - lower) lower) ∙ ap (λ k. m * k) whole

-- the capacity of one step, existing or not
step_capacity : (units : List ℕ) (lower x : ℕ) (xs : List ℕ) → length (places_reaching units x) ≡ suc (length xs) → lower < x →
    slicing_capacity (map array_of (layers_above units lower (x ∷ xs)))
    ≡ length xs * (x - lower) + slicing_capacity (map array_of (layers_above units x xs))
step_capacity units lower x xs members h =
    let fewer : length (places_reaching units x) - 1 ≡ length xs = omega arith in
    rw (layers_above_yes units lower x xs h)
    (cond_both (is_redundant (layer_between units (lower, x))) (layer_between units (lower, x) ∷ layers_above units x xs) (layers_above units x xs)
    (λ t. slicing_capacity (map array_of t) ≡ length xs * (x - lower) + slicing_capacity (map array_of (layers_above units x xs)))
    (λ e. rw (sum_by-cons array_capacity (array_of (layer_between units (lower, x))) (map array_of (layers_above units x xs)), fewer))
    (λ e.
    let few : length (places_reaching units x) < 2 = leb-false 2 (length (places_reaching units x)) e in
    let none : length xs ≡ 0 = omega arith in
    rw none (omega arith)))

-- the layers above a level hold all that the drives have above it, but for the most
pub capacity_above : (units : List ℕ) (lower : ℕ) (xs : List ℕ) → Rising lower xs →
    ((level : ℕ) → lower < level → length (places_reaching units level) ≡ count_by (λ u. nat_le level u) xs) →
    slicing_capacity (map array_of (layers_above units lower xs)) + length xs * lower + top lower xs ≡ sum xs + lower
capacity_above units lower [] rising counts = omega arith
capacity_above units lower (x ∷ xs) rising counts =
    let later : (level : ℕ) → x < level → length (places_reaching units level) ≡ count_by (λ u. nat_le level u) xs =
    λ level above.
    let fails : nat_le level x ≡ false = lt-leb level x above in
    counts level (omega (arith, rising.0)) ∙ rw (sum_by-cons (λ u. cond (nat_le level u) 1 0) x xs, fails) (omega arith) in
    let rest = capacity_above units x xs rising.1 later in
    let total : sum (x ∷ xs) ≡ x + sum xs = sum_by-cons (λ u. u) x xs in
    ⊎_elim
    (λ (h : lower < x).
    let members : length (places_reaching units x) ≡ suc (length xs) =
    counts x h ∙ all_reach x x (x ∷ xs) (omega arith) (omega arith, rising.1) in
    let step = step_capacity units lower x xs members h in
    let parts : length xs * (x - lower) + length xs * lower ≡ length xs * x = parted (length xs) lower x (omega arith) in
    rw (step, suc-mul) (omega arith))
    (λ (h : x ≤ lower).
    let same : x ≡ lower = omega (arith, rising.0) in
    let moved = subst (λ (y : ℕ). slicing_capacity (map array_of (layers_above units y xs)) + length xs * y + top x xs ≡ sum xs + y) same rest in
    rw (layers_above_no units lower x xs h, suc-mul) (omega arith))
    (cases_lt lower x)
