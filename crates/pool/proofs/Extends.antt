-- A volume that can be extended, and one whose arrays get longer.
use Rattle.std.specs.List.{list_all, range_with_len}
use Rattle.std.proofs.Common.{◌≡◌, ℕ, zero, suc, ◌+◌, ◌*◌, ◌^◌, ◌<◌, ◌≤◌, ◌==◌, ◌&&◌, ◌/◌, nat_le, nat_lt, Bool, true, false, List, [], ◌∷◌, length, slice_get, slice_index, sum_by, Some, refl, sym, ap, subst, ◌∙◌, inl, inr, arith, leb-true, ltb-true, lt-ltb, ap₂}
use Rattle.std.proofs.lemmas.Bool.{and_parts, both_ways, cases_Bool, cases_eq, eq-eqb, le-leb}
use Rattle.std.proofs.lemmas.Nat.{div-mul-add}
use Rattle.std.proofs.lemmas.List.Folds.{list_all_at}
use Rattle.std.proofs.lemmas.List.FromFn.{get_or-range_with_len, length-range_with_len}
use Rattle.std.proofs.lemmas.List.Sums.{sum_by-cons}
use Rattle.std.proofs.lemmas.Option.{get_or_from_slice_get, slice_get_within}
use Rattle.array_model.specs.View.{View as ArrayView, sectors_of}
use Rattle.growth_laws.specs.Growing.{GetsLonger, total}
use Rattle.lvm_group.specs.Growth.{AreBelow, fits}
use Rattle.lvm_group.specs.Own.{HoldAll}
use Rattle.lvm_group.specs.Runs.{Linear, data_start, extents_of, place_of, sectors_in}
use Rattle.lvm_group.specs.Shown.{IsInside, total as total_of}
use Rattle.rack.specs.Seen.{RackView}
use Rattle.raid_laws.specs.Raid.{Raid, raid_of}
use Rattle.pool.specs.Growing.{can_extend, holds_extents, holds_number}

-- ---- a volume that can be extended

pub record MayExtend (l : Linear) (v : Raid) (numbers : List ℕ) : Type 0 where
  pub some : 0 < length numbers
  pub arrays : length numbers ≤ v.state.made
  pub below : AreBelow numbers
  pub holds : HoldAll l.extent (λ n. sectors_of (v.arrays n)) 0 numbers
  pub fits : fits l.runs numbers ≡ true

-- each number of a range
each_number : (f : ℕ → Bool) (n k : ℕ) → list_all f (range_with_len 0 n) ≡ true → k < n → f k ≡ true
each_number f n k all low =
    elim (cases_Bool (f k)) [
      | inl so ↦ so
      | inr not_so ↦
          let zero : 0 + k ≡ k = omega arith in
          absurd
          (both_ways (list_all f (range_with_len 0 n))
          (list_all_at f (range_with_len 0 n) k 0 (subst (λ m. k < m) (sym (length-range_with_len 0 n)) low)
          (ap f (get_or-range_with_len 0 n k 0 low ∙ zero) ∙ not_so))
          all)
    ]

-- a list that isn't empty
pub some_of : (n : ℕ) → (n == 0) ≡ false → 0 < n
some_of n is = elim (cases_eq n 0) [ inl empty ↦ absurd (both_ways (n == 0) is (eq-eqb n 0 empty)) | inr other ↦ omega (arith, other) ]

-- what a list has at a place
index_at : (xs : List ℕ) (k x : ℕ) → slice_get xs k ≡ Some x → slice_index xs k ≡ x
index_at xs k x at = get_or_from_slice_get xs k x 0 at

all_below : (xs : List ℕ) → ((k x : ℕ) → slice_get xs k ≡ Some x → x < 2 ^ 45) → AreBelow xs
all_below [] each = tt
all_below (x ∷ xs) each = (each 0 x refl, all_below xs (λ k y at. each (suc k) y at))

pub may_extend : (l : Linear) (v : Raid) (numbers : List ℕ) → can_extend l v numbers ≡ true → MayExtend l v numbers
may_extend l v numbers is =
    let n = length numbers in
    let both = and_parts (nat_lt 0 (extents_of l.runs) && (nat_lt 0 n && nat_le n v.state.made))
    (list_all (holds_number v numbers l.extent) (range_with_len 0 n) && fits l.runs numbers) is in
    let counts = and_parts (nat_lt 0 n) (nat_le n v.state.made) (and_parts (nat_lt 0 (extents_of l.runs)) (nat_lt 0 n && nat_le n v.state.made) both.0).1 in
    let rooms = and_parts (list_all (holds_number v numbers l.extent) (range_with_len 0 n)) (fits l.runs numbers) both.1 in
    let room : (k x : ℕ) → slice_get numbers k ≡ Some x → (x < 2 ^ 45) × (data_start + x * l.extent ≤ sectors_of (v.arrays k)) =
    λ k x at.
    let parts = and_parts (nat_lt x (2 ^ 45)) (nat_le (data_start + x * l.extent) (sectors_of (v.arrays k)))
    (subst (λ y. holds_extents v k y l.extent ≡ true) (index_at numbers k x at)
    (each_number (holds_number v numbers l.extent) n k rooms.0 (slice_get_within numbers k x at))) in
    (ltb-true x (2 ^ 45) parts.0, leb-true (data_start + x * l.extent) (sectors_of (v.arrays k)) parts.1) in
    record {
      some = ltb-true 0 n counts.0;
      arrays = leb-true n v.state.made counts.1;
      below = all_below numbers (λ k x at. (room k x at).0);
      holds = λ k x at. subst (λ j. data_start + x * l.extent ≤ sectors_of (v.arrays j)) (omega arith) (room k x at).1;
      fits = rooms.1;
    }

-- the test of it, once it has an extent and there are arrays
pub tested : (l : Linear) (v : Raid) (numbers : List ℕ) (size count : ℕ) → count ≡ extents_of l.runs → size ≡ sectors_in l → 0 < count → 0 < length numbers
    → length numbers ≤ v.state.made
    → can_extend l v numbers ≡ (list_all (holds_number v numbers (size / count)) (range_with_len 0 (length numbers)) && fits l.runs numbers)
tested l v numbers size count counted sized some listed made =
    let n = length numbers in
    let one : nat_lt 0 (extents_of l.runs) ≡ true = lt-ltb 0 (extents_of l.runs) (omega (arith, counted, some)) in
    let two : nat_lt 0 n ≡ true = lt-ltb 0 n listed in
    let three : nat_le n v.state.made ≡ true = le-leb n v.state.made made in
    let extent : size / count ≡ l.extent =
    ap₂ (λ a b. a / b) (sized ∙ omega arith) counted ∙ div-mul-add l.extent (extents_of l.runs) 0 (omega (arith, counted, some)) in
    rw (one, two, three, extent) refl

-- ---- arrays that get longer

-- a sum over one number more
sum_more : (f : ℕ → ℕ) (a n : ℕ) → sum_by f (range_with_len a (suc n)) ≡ sum_by f (range_with_len a n) + f (a + n)
sum_more f a zero =
    let first = sum_by-cons f a [] in
    let zero : a + 0 ≡ a = omega arith in
    let same = ap f zero in
    omega (arith, first, same)
sum_more f a (suc n) =
    let first = sum_by-cons f a (range_with_len (a + 1) (suc n)) in
    let second = sum_by-cons f a (range_with_len (a + 1) n) in
    let rest = sum_more f (a + 1) n in
    let next : a + 1 + n ≡ a + suc n = omega arith in
    let same = ap f next in
    omega (arith, first, second, rest, same)

-- the sum of the first arrays' sectors, as a volume counts it
pub totals : (f : ℕ → ArrayView) (n : ℕ) → total f n ≡ total_of (λ k. sectors_of (f k)) n
totals f zero = refl
totals f (suc n) =
    let more = sum_more (λ k. sectors_of (f k)) 0 n in
    let zero : 0 + n ≡ n = omega arith in
    let last = ap (λ k. sectors_of (f k)) zero in
    let before = totals f n in
    omega (arith, more, last, before)

-- the volume's extents lie inside them still
pub inside_longer : (l : Linear) (Fit Fit_now : Type 0) (r s : ℕ → ℕ) (v w : Raid) (a b : RackView) → GetsLonger v w → IsInside l (raid_of Fit r v a)
    → ((e : ℕ) → e < extents_of l.runs → (place_of l.runs e).array < v.state.made) → IsInside l (raid_of Fit_now s w b)
inside_longer l Fit Fit_now r s v w a b longer inside low = record {
  small =
      subst (λ n. n < 2 ^ 52) (totals w.arrays w.state.made)
      (longer.small (subst (λ n. n < 2 ^ 52) (sym (totals v.arrays v.state.made)) inside.small));
  arrays = let was = inside.arrays in let more = longer.made in omega (arith, was, more);
  placed = inside.placed;
  held = λ e below.
      let place = place_of l.runs e in
      let was = inside.held e below in
      let more = longer.sectors place.array (low e below) in
      omega (arith, was, more);
}
