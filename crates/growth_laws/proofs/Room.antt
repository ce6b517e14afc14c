-- Arrays whose members' slices all end on a drive are short enough for a volume, also once a reshape ends.
use Rattle.std.proofs.Math.Nat.{mul-le-mul_right}
use Rattle.std.proofs.Common.{◌≡◌, ℕ, zero, suc, ◌+◌, ◌-◌, ◌*◌, ◌<◌, ◌≤◌, ◌^◌, Bool, true, false, if◌then◌else◌, List, [], ◌∷◌, map, refl, sym, ap, ◌∙◌, arith}
use Rattle.std.specs.List.{range_with_len, sum_by}
use Rattle.std.proofs.lemmas.Bool.{leb-true}
use Rattle.std.proofs.lemmas.List.FromFn.{take-map-range_with_len}
use Rattle.std.proofs.lemmas.List.Sums.{sum_by-cons}
use Rattle.rack.specs.Seen.{RackView}
use Rattle.md_super.specs.Profile.{is_mirror}
use Rattle.array_image.specs.Stripes.{capacity, mirror, parity}
use Rattle.array_image.specs.Supers.{is_reshaping}
use Rattle.array_model.specs.View.{IsArray, View, sectors_of}
use Rattle.reshape_laws.specs.Ahead.{finished}
use Rattle.array_core.specs.Superblocks.{raised}
use Rattle.raid_laws.specs.Moves.{IsSet}
use Rattle.raid_laws.specs.NewDrive.{first_in, slice_length}
use Rattle.raid_laws.specs.Raid.{Raid}
use Rattle.transition_laws.specs.Changes.{changed, steps}
use Rattle.growth_laws.specs.Growing.{GetsLonger, has_room, total, views_of}
use Rattle.growth_laws.proofs.Becoming.{finished_sectors}
use Rattle.growth_laws.proofs.Steps.{by_array}

-- ---- sums

sum_most : (f g : ℕ → ℕ) (c a n : ℕ) → ((k : ℕ) → k < a + n → f k ≤ c * g k) → sum_by f (range_with_len a n) ≤ c * sum_by g (range_with_len a n)
sum_most f g c a zero few = omega arith
sum_most f g c a (suc n) few =
    let one = few a (omega arith) in
    let rest = sum_most f g c (a + 1) n (λ k low. few k (omega (arith, low))) in
    let left = sum_by-cons f a (range_with_len (a + 1) n) in
    let right = sum_by-cons g a (range_with_len (a + 1) n) in
    let all : c * sum_by g (a ∷ range_with_len (a + 1) n) ≡ c * g a + c * sum_by g (range_with_len (a + 1) n) = ap (λ k. c * k) right ∙ times c (g a) (sum_by g (range_with_len (a + 1) n)) in
    omega (arith, one, rest, left, all)
  where
    times : (c x y : ℕ) → c * (x + y) ≡ c * x + c * y
    times c x y = omega arith

pub sum_mapped : (f : View → ℕ) (g : ℕ → View) (xs : List ℕ) → sum_by f (map g xs) ≡ sum_by (λ k. f (g k)) xs
sum_mapped f g [] = refl
sum_mapped f g (x ∷ xs) = sum_by-cons f (g x) (map g xs) ∙ ap (λ n. f (g x) + n) (sum_mapped f g xs) ∙ sym (sum_by-cons (λ k. f (g k)) x xs)

-- ---- how long an array is

-- at most 15 members' data
pub sectors_few : (u : View) → IsArray u → sectors_of u ≤ 15 * u.truth.size
sectors_few u a = by (is_reshaping u.truth) (is_mirror u.truth) a.most
  where
    by : (b c : Bool) → u.truth.raid_disks ≤ (if c then 2 else 16)
        → capacity (if b then parity (u.truth.raid_disks - 1) else if c then mirror u.truth.raid_disks else parity u.truth.raid_disks) u.truth.size ≤ 15 * u.truth.size
    by true true few = mul-le-mul_right u.truth.size (omega (arith, few))
    by true false few = mul-le-mul_right u.truth.size (omega (arith, few))
    by false true few = omega arith
    by false false few = mul-le-mul_right u.truth.size (omega (arith, few))

-- the members' slices, all together
room_sum : (v : Raid) → has_room v ≡ true → sum_by (λ k. slice_length (v.arrays k)) (range_with_len 0 v.state.made) < 2 ^ 48
room_sum v room =
    let fits = leb-true (first_in (views_of v) v.state.made + 33) (2 ^ 48) room in
    let same = ap (sum_by slice_length) (take-map-range_with_len v.arrays 0 v.state.made v.state.made (omega arith)) ∙ sum_mapped slice_length v.arrays (range_with_len 0 v.state.made) in
    omega (arith, fits, same)

-- arrays of as many members' data as these have are short enough
pub short_enough : (v w : Raid) → has_room v ≡ true → ((n : ℕ) → n < v.state.made → sectors_of (w.arrays n) ≤ 15 * (v.arrays n).truth.size)
    → total w.arrays v.state.made < 2 ^ 52
short_enough v w room few =
    let all = sum_most (λ k. sectors_of (w.arrays k)) (λ k. slice_length (v.arrays k)) 15 0 v.state.made
    (λ k low. let most = few k (omega (arith, low)) in omega (arith, most)) in
    let fits = room_sum v room in
    omega (arith, all, fits)

-- THE END OF A RESHAPE
pub finished_longer : (v : Raid) (x : RackView) (m : ℕ) → IsSet v x → m < v.state.made → is_reshaping (v.arrays m).truth ≡ true → has_room v ≡ true
    → IsArray (finished (v.arrays m) (raised (v.arrays m).truth.events))
    → GetsLonger v (changed (steps m (finished (v.arrays m) (raised (v.arrays m).truth.events))) v)
finished_longer v x m set low reshaping room array =
    let next = finished (v.arrays m) (raised (v.arrays m).truth.events) in
    record {
      made = omega arith;
      sectors = λ n below.
          by_array (λ k u. sectors_of (v.arrays k) ≤ sectors_of u) v m next n (finished_sectors (v.arrays m) (raised (v.arrays m).truth.events) (set.arrays m low).is_array reshaping)
          (λ other. omega arith);
      small = λ small.
          short_enough v (changed (steps m next) v) room
          (λ n below.
          by_array (λ k u. sectors_of u ≤ 15 * (v.arrays k).truth.size) v m next n (sectors_few next array) (λ other. sectors_few (v.arrays n) (set.arrays n below).is_array));
    }
