-- Numbers below a bound, no two equal, are no more than the bound: so a volume has no more sectors than its arrays.
use Rattle.std.proofs.Common.{◌≡◌, ◌≢◌, ◌⊎◌, ℕ, zero, suc, ◌+◌, ◌<◌, ◌≤◌, Bool, true, false, ◌||◌, inl, inr, List, [], ◌∷◌, length, refl, ap, subst, arith}
use Rattle.std.specs.List.{AllByRecursion, IsDistinct, list_any}
use Rattle.std.proofs.Math.Dec.{eqb}
use Rattle.std.proofs.lemmas.Bool.{cases_eq, cases_lt, eqb-true}
use Rattle.std.proofs.lemmas.Map.Steps.{length-le_from_distinct_below}
use Rattle.rack.specs.Seen.{RackView}
use Rattle.lvm_group.specs.Runs.{Linear, IsOrderly, sectors_in, array_of, sector_of}
use Rattle.lvm_group.specs.Shown.{IsInside, total}
use Rattle.lvm_group.specs.Laws.{array_below, sector_below}
use Rattle.lvm_group.proofs.Below.{one_sector}

-- the values of a function below a number, the last one first
abbrev values : (ℕ → ℕ) → ℕ → List ℕ
values f zero = []
values f (suc n) = f n ∷ values f n

length_of : (f : ℕ → ℕ) (n : ℕ) → length (values f n) ≡ n
length_of f zero = refl
length_of f (suc n) = ap suc (length_of f n)

either : (p q : Bool) → (p || q) ≡ true → (p ≡ true) ⊎ (q ≡ true)
either true q e = inl refl
either false q e = inr e

none : false ≡ true → ⊥
none same = cc

-- a number among them is the value of some number
value_of : (f : ℕ → ℕ) (n q : ℕ) → list_any (eqb q) (values f n) ≡ true → (k : ℕ) × (k < n) × (q ≡ f k)
value_of f zero q has = absurd (none has)
value_of f (suc n) q has = elim (either _ _ has) [
  | inl here ↦ (n, omega arith, eqb-true q (f n) here)
  | inr there ↦ let before = value_of f n q there in (before.0, let below = before.1 in omega arith, before.2)
]

abbrev IsOneToOne : (ℕ → ℕ) → ℕ → Type 0
IsOneToOne f n = (k m : ℕ) → k < n → m < n → f k ≡ f m → k ≡ m

not_there : (b : Bool) → (b ≡ true → ⊥) → b ≡ false
not_there true never = absurd (never refl)
not_there false never = refl

differs : (f : ℕ → ℕ) (n q : ℕ) → ((k : ℕ) → k < n → q ≢ f k) → AllByRecursion (λ y. eqb q y ≡ false) (values f n)
differs f zero q other = tt
differs f (suc n) q other =
    (not_there (eqb q (f n)) (λ same. other n (omega arith) (eqb-true q (f n) same)), differs f n q (λ k below. other k (omega arith)))

distinct : (f : ℕ → ℕ) (n : ℕ) → IsOneToOne f n → IsDistinct eqb (values f n)
unfolding IsDistinct
distinct f zero one = tt
distinct f (suc n) one = (
  differs f n (f n) (λ k below same. let is = one n k (omega arith) (omega arith) same in absurd (omega arith)),
  distinct f n (λ k m k_below m_below same. one k m (omega arith) (omega arith) same),
)

-- as many numbers, each with a value of its own below the bound
pub no_more : (f : ℕ → ℕ) (n bound : ℕ) → ((k : ℕ) → k < n → f k < bound) → IsOneToOne f n → n ≤ bound
no_more f n bound below one =
    subst (λ k. k ≤ bound) (length_of f n)
    (length-le_from_distinct_below (values f n) bound (distinct f n one) (λ q has.
    let found = value_of f n q has in
    rw found.2 (below found.0 found.1)))

-- ---- the sectors of all arrays, one after the other

total_up : (f : ℕ → ℕ) (i j : ℕ) → i < j → total f i + f i ≤ total f j
total_up f i zero up = absurd (omega arith)
total_up f i (suc j) up = elim (cases_eq i j) [
  | inl last ↦ rw last (omega arith)
  | inr other ↦ let before = total_up f i j (omega arith) in omega arith
]

-- a place in that row says the array
pub one_array : (f : ℕ → ℕ) (i j s t : ℕ) → s < f i → t < f j → total f i + s ≡ total f j + t → i ≡ j
one_array f i j s t s_below t_below same = elim (cases_eq i j) [
  | inl one ↦ one
  | inr other ↦ elim (cases_lt i j) [
    | inl before ↦ let up = total_up f i j before in absurd (omega arith)
    | inr behind ↦ let up = total_up f j i (omega arith) in absurd (omega arith)
  ]
]

-- a volume has no more sectors than its arrays
pub no_more_sectors : (l : Linear) (a : RackView) → IsOrderly l → IsInside l a → sectors_in l ≤ total a.sectors a.disks
no_more_sectors l a orderly inside =
    no_more (λ s. total a.sectors (array_of l s) + sector_of l s) (sectors_in l) (total a.sectors a.disks)
    (λ s within.
    let array = array_below l a s orderly inside within in
    let arrays = inside.arrays in
    let sector = sector_below l a s orderly inside within in
    let up = total_up a.sectors (array_of l s) a.disks (omega arith) in
    omega arith)
    (λ s t s_within t_within same.
    let s_sector = sector_below l a s orderly inside s_within in
    let t_sector = sector_below l a t orderly inside t_within in
    let array : array_of l s ≡ array_of l t = one_array a.sectors (array_of l s) (array_of l t) (sector_of l s) (sector_of l t) s_sector t_sector same in
    one_sector l s t orderly s_within t_within array (omega (arith, ap (total a.sectors) array, same)))
