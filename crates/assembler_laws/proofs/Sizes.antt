-- The arrays of a pool have fewer than 2^52 sectors together, since their slices lie one behind the other on a drive.
use Rattle.std.proofs.Common.{◌≡◌, ℕ, zero, suc, ◌+◌, ◌*◌, ◌-◌, ◌<◌, ◌≤◌, ◌^◌, Bool, true, false, List, [], ◌∷◌, if◌then◌else◌, length, slice_get, Option, Some, refl, sym, ap, subst, arith}
use Rattle.std.specs.Option.{option_map_or}
use Rattle.std.proofs.Math.Nat.{mul-le-mul_right}
use Rattle.md_super.specs.Profile.{is_mirror}
use Rattle.array_image.specs.Places.{arrays_first}
use Rattle.array_image.specs.Stripes.{Layout, mirror, parity, capacity, width}
use Rattle.array_image.specs.Supers.{is_named, is_reshaping}
use Rattle.array_image.specs.Arrays.{first_layout}
use Rattle.array_model.specs.View.{View, IsArray, sectors_of}
use Rattle.lvm_group.specs.Shown.{total}
use Rattle.pool_image.specs.Disks.{Seats}
use Rattle.pool_check.specs.declared.Extent.{Extent}
use Rattle.pool_check.specs.Slots.{AreSlots, behind}

-- an array has at most fifteen times the sectors of a member
sectors_most : (v : View) → IsArray v → sectors_of v ≤ 15 * v.truth.size
sectors_most v is_array = by (first_layout v.truth) few
  where
    few : width (first_layout v.truth) ≤ 16
    few = of (is_reshaping v.truth) (is_mirror v.truth) is_array.most
      where
        of : (r m : Bool) → v.truth.raid_disks ≤ (if m then 2 else 16)
            → width (if r then parity (v.truth.raid_disks - 1) else if m then mirror v.truth.raid_disks else parity v.truth.raid_disks) ≤ 16
        of true true low = omega (arith, low)
        of true false low = omega (arith, low)
        of false true low = omega (arith, low)
        of false false low = low

    by : (l : Layout) → width l ≤ 16 → capacity l v.truth.size ≤ 15 * v.truth.size
    by (mirror n) low = omega arith
    by (parity n) low = mul-le-mul_right v.truth.size (omega (arith, low))

module _ (sectors : ℕ → ℕ) (seats : Seats) (arrays : List View) (extents : List Extent) (slots : AreSlots sectors seats arrays extents)
    (small : (place d : ℕ) → seats place ≡ Some d → sectors d < 2 ^ 48)
    (rules : (n : ℕ) (v : View) → slice_get arrays n ≡ Some v → IsArray v)
    (member : (n : ℕ) (v : View) → slice_get arrays n ≡ Some v → (place d : ℕ) × (is_named v.truth place ≡ true) × (seats place ≡ Some d))
    (f : ℕ → ℕ) (same : (n : ℕ) (v : View) → slice_get arrays n ≡ Some v → f n ≡ sectors_of v) where
  got : {X : Type 0} (xs : List X) (n : ℕ) → n < length xs → (x : X) × (slice_get xs n ≡ Some x)
  got [] n below = absurd (omega (arith, below))
  got (x ∷ xs) zero below = (x, refl)
  got (x ∷ xs) (suc n) below = got xs n (omega (arith, below))

  -- where the slices of the first arrays end
  end_of : ℕ → ℕ
  end_of zero = arrays_first
  end_of (suc k) = option_map_or behind (slice_get extents k) 0

  -- the next array's slices begin behind them
  follows : (k : ℕ) → k < length extents → (e : Extent) → slice_get extents k ≡ Some e → end_of k ≤ e.first
  unfolding end_of
  follows zero low e is = slots.ordered.least 0 e is
  follows (suc k) low e is =
      let before = got extents k (omega (arith, low)) in
      subst (λ (o : Option Extent). option_map_or behind o 0 ≤ e.first) (sym before.1) (slots.ordered.follow k (suc k) before.0 e (omega arith) before.1 is)

  total_most : (k : ℕ) → k ≤ length arrays → total f k ≤ 15 * end_of k
  unfolding end_of
  total_most zero low = omega arith
  total_most (suc k) low =
      let v = got arrays k (omega (arith, low)) in
      let e = got extents k (let count = slots.lengths in omega (arith, low, count)) in
      let early = total_most k (omega (arith, low)) in
      let next = follows k (let count = slots.lengths in omega (arith, low, count)) e.0 e.1 in
      let size = slots.sizes k v.0 e.0 v.1 e.1 in
      let most = sectors_most v.0 (rules k v.0 v.1) in
      let here = same k v.0 v.1 in
      subst (λ (o : Option Extent). total f k + f k ≤ 15 * option_map_or behind o 0) (sym e.1) (omega (arith, early, next, size, most, here))

  pub total_small : (n : ℕ) → length arrays ≡ n → total f n < 2 ^ 52
  unfolding end_of got
  total_small zero count = omega arith
  total_small (suc k) count =
      let v = got arrays k (omega (arith, count)) in
      let e = got extents k (let same = slots.lengths in omega (arith, count, same)) in
      let one = member k v.0 v.1 in
      let fits = slots.fits k v.0 e.0 one.0 one.1 v.1 e.1 one.2 one.3 in
      let drive = small one.0 one.1 one.3 in
      let most = total_most (suc k) (omega (arith, count)) in
      let end : end_of (suc k) ≡ behind e.0 = ap (λ (o : Option Extent). option_map_or behind o 0) e.1 in
      omega (arith, most, end, fits, drive)
