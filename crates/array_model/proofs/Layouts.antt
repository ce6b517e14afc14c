-- Where the sectors of an array stand.
use Rattle.std.proofs.Common.{◌≡◌, ℕ, ◌*◌, ◌-◌, ◌/◌, ◌%◌, ◌<◌, ◌≤◌, ◌^◌, Bool, true, false, nat_lt, if◌then◌else◌, refl, sym, ap, subst, ◌∙◌, arith, ◌&&◌}
use Rattle.std.proofs.Math.Nat.{mul-le-mul_right}
use Rattle.md_super.specs.Profile.{is_mirror}
use Rattle.raid_map.specs.LeftSymmetric.{IsMemberCount, row_of, row_at, sector_of}
use Rattle.raid_map.proofs.Rows.{rows_are_apart}
use Rattle.array_image.specs.Stripes.{Layout, mirror, parity, width, capacity, sector_in}
use Rattle.array_image.specs.Supers.{is_reshaping, new_row}
use Rattle.array_image.specs.Arrays.{layout_at, final_layout, first_layout}
use Rattle.array_model.specs.View.{View, IsArray, shape_of, sectors_of}
use Rattle.array_model.specs.Members.{row_layout}
use Rattle.array_model.proofs.Noting.{IsLayoutOf, layout_is, final_is, first_is}

-- which layout holds a sector: by the tests of its superblock
pub layout_by : (v : View) (x : ℕ) (reshaping moved : Bool) → is_reshaping v.truth ≡ reshaping → nat_lt x v.truth.reshape_position ≡ moved
    → layout_at (shape_of v) x ≡ (if reshaping then if moved then final_layout v.truth else parity (v.truth.raid_disks - 1) else final_layout v.truth)
unfolding shape_of
layout_by v x true moved is_r is_m =
    ap (λ (b : Bool). if nat_lt x (if b then v.truth.reshape_position else 0) then final_layout v.truth else if b then parity (v.truth.raid_disks - 1) else final_layout v.truth) is_r
    ∙ ap (λ (b : Bool). if b then final_layout v.truth else parity (v.truth.raid_disks - 1)) is_m
layout_by v x false moved is_r is_m =
    ap (λ (b : Bool). if nat_lt x (if b then v.truth.reshape_position else 0) then final_layout v.truth else if b then parity (v.truth.raid_disks - 1) else final_layout v.truth) is_r
    ∙ same (nat_lt x 0)
  where
    same : (b : Bool) → (if b then final_layout v.truth else final_layout v.truth) ≡ final_layout v.truth
    same true = refl
    same false = refl

pub final_by : (v : View) (b : Bool) → is_mirror v.truth ≡ b → final_layout v.truth ≡ (if b then mirror v.truth.raid_disks else parity v.truth.raid_disks)
final_by v b is = ap (λ (m : Bool). if m then mirror v.truth.raid_disks else parity v.truth.raid_disks) is

-- a reshaping array is RAID-5, and no mirror
pub reshaping_parity : (v : View) → IsArray v → is_reshaping v.truth ≡ true → final_layout v.truth ≡ parity v.truth.raid_disks
reshaping_parity v is_array is =
    let three = (is_array.reshape is).1 in
    by (is_mirror v.truth) is_array.most three
  where
    by : (b : Bool) → v.truth.raid_disks ≤ (if b then 2 else 16) → 3 ≤ v.truth.raid_disks → (if b then mirror v.truth.raid_disks else parity v.truth.raid_disks) ≡ parity v.truth.raid_disks
    by true few many = absurd (omega (arith, few, many))
    by false few many = refl

-- ---- inside

count_of : (n : ℕ) (layout : Layout) → IsLayoutOf n layout → IsMemberCount (width layout)
count_of n layout is = let most = is.most in let count = is.count in record { least = is.least; most = omega (arith, most, count) }

pub members_count : (v : View) (x : ℕ) → IsArray v → IsMemberCount (width (layout_at (shape_of v) x))
members_count v x is_array = count_of v.truth.raid_disks (layout_at (shape_of v) x) (layout_is v x is_array)

pub parity_inside : (n size x : ℕ) → IsMemberCount n → size % 128 ≡ 0 → x < (n - 1) * size → sector_of n x < size
parity_inside n size x count whole low =
    let apart = rows_are_apart n count in
    let r = size / 128 in
    let size_is : size ≡ r * 128 = omega (arith, whole) in
    let ends = apart.array_end x r in
    let low_x : x < r * (n - 1) * 128 = subst (λ k. x < k) (ap (λ s. (n - 1) * s) size_is ∙ swap (n - 1) r) low in
    let row_low : row_of n x < r = ends.1 low_x in
    let at : row_at (sector_of n x) < r = subst (λ k. k < r) (sym (apart.row x)) row_low in
    let end = (apart.members_end (sector_of n x) r).0 at in
    omega (arith, end, size_is)
  where
    swap : (a b : ℕ) → a * (b * 128) ≡ b * a * 128
    swap a b = grind arith

mul_less : (a b size : ℕ) → a ≤ b → a * size ≤ b * size
mul_less a b size low = mul-le-mul_right size low

-- a sector of the array stands inside its members' data
pub sector_inside : (v : View) (x : ℕ) → IsArray v → x < sectors_of v → sector_in (layout_at (shape_of v) x) x < v.truth.size
unfolding shape_of
sector_inside v x is_array low = by (is_reshaping v.truth) refl
  where
    final_inside : x < capacity (final_layout v.truth) v.truth.size → sector_in (final_layout v.truth) x < v.truth.size
    final_inside = of (is_mirror v.truth) is_array.most
      where
        of : (b : Bool) → v.truth.raid_disks ≤ (if b then 2 else 16)
            → x < capacity (if b then mirror v.truth.raid_disks else parity v.truth.raid_disks) v.truth.size
            → sector_in (if b then mirror v.truth.raid_disks else parity v.truth.raid_disks) x < v.truth.size
        of true few inside = inside
        of false few inside = parity_inside v.truth.raid_disks v.truth.size x (record { least = is_array.least; most = few }) is_array.whole_rows inside

    by : (b : Bool) → is_reshaping v.truth ≡ b → sector_in (layout_at (shape_of v) x) x < v.truth.size
    by false is =
        let layout = layout_by v x false (nat_lt x v.truth.reshape_position) is refl in
        let first : first_layout v.truth ≡ final_layout v.truth = ap (λ (b : Bool). if b then parity (v.truth.raid_disks - 1) else final_layout v.truth) is in
        subst (λ (l : Layout). sector_in l x < v.truth.size) (sym layout)
        (final_inside (subst (λ (l : Layout). x < capacity l v.truth.size) first low))
    by true is =
        let three = (is_array.reshape is).1 in
        let final = reshaping_parity v is_array is in
        let first : first_layout v.truth ≡ parity (v.truth.raid_disks - 1) = ap (λ (b : Bool). if b then parity (v.truth.raid_disks - 1) else final_layout v.truth) is in
        let inside : x < (v.truth.raid_disks - 1 - 1) * v.truth.size = subst (λ (l : Layout). x < capacity l v.truth.size) first low in
        let more = mul_less (v.truth.raid_disks - 1 - 1) (v.truth.raid_disks - 1) v.truth.size (omega arith) in
        let few : v.truth.raid_disks ≤ 16 = few_of (is_mirror v.truth) is_array.most in
        subst (λ (l : Layout). sector_in l x < v.truth.size) (sym (layout_by v x true (nat_lt x v.truth.reshape_position) is refl))
        (in_either _ _ (nat_lt x v.truth.reshape_position)
        (subst (λ (l : Layout). sector_in l x < v.truth.size) (sym final)
        (parity_inside v.truth.raid_disks v.truth.size x (record { least = is_array.least; most = few }) is_array.whole_rows (omega (arith, inside, more))))
        (parity_inside (v.truth.raid_disks - 1) v.truth.size x (record { least = omega (arith, three); most = omega (arith, few) }) is_array.whole_rows inside))
      where
        few_of : (b : Bool) → v.truth.raid_disks ≤ (if b then 2 else 16) → v.truth.raid_disks ≤ 16
        few_of true few = omega (arith, few)
        few_of false few = few

        in_either : (k l : Layout) (b : Bool) → sector_in k x < v.truth.size → sector_in l x < v.truth.size → sector_in (if b then k else l) x < v.truth.size
        in_either k l true one other = one
        in_either k l false one other = other

-- and it is a number of 52 bits
pub sectors_small : (v : View) → IsArray v → sectors_of v ≤ 15 * 2 ^ 48
sectors_small v is_array =
    let small = is_array.small in
    by (first_layout v.truth) few
  where
    few : width (first_layout v.truth) ≤ 16
    few = of (is_reshaping v.truth) (is_mirror v.truth) is_array.most
      where
        of : (r m : Bool) → v.truth.raid_disks ≤ (if m then 2 else 16)
            → width (if r then parity (v.truth.raid_disks - 1) else if m then mirror v.truth.raid_disks else parity v.truth.raid_disks) ≤ 16
        of true true low = omega (arith, low)
        of true false low = omega (arith, low)
        of false true low = omega (arith, low)
        of false false low = low

    by : (l : Layout) → width l ≤ 16 → capacity l v.truth.size ≤ 15 * 2 ^ 48
    by (mirror n) low = let small = is_array.small in omega (arith, small)
    by (parity n) low =
        let small = is_array.small in
        let most = mul_less (n - 1) 15 v.truth.size (omega (arith, low)) in
        omega (arith, most, small)

-- ---- rows

pub row_by : (v : View) (sector : ℕ) (reshaping moved : Bool) → is_reshaping v.truth ≡ reshaping → nat_lt (row_at sector * new_row v.truth) v.truth.reshape_position ≡ moved
    → row_layout v sector ≡ (if reshaping then if moved then final_layout v.truth else parity (v.truth.raid_disks - 1) else final_layout v.truth)
row_by v sector true moved is_r is_m =
    ap (λ (b : Bool). if b && nat_lt (row_at sector * new_row v.truth) v.truth.reshape_position then final_layout v.truth else if b then parity (v.truth.raid_disks - 1) else final_layout v.truth) is_r
    ∙ ap (λ (b : Bool). if b then final_layout v.truth else parity (v.truth.raid_disks - 1)) is_m
row_by v sector false moved is_r is_m =
    ap (λ (b : Bool). if b && nat_lt (row_at sector * new_row v.truth) v.truth.reshape_position then final_layout v.truth else if b then parity (v.truth.raid_disks - 1) else final_layout v.truth) is_r

pub row_layout_is : (v : View) (sector : ℕ) → IsArray v → IsLayoutOf v.truth.raid_disks (row_layout v sector)
row_layout_is v sector is_array = by (is_reshaping v.truth && nat_lt (row_at sector * new_row v.truth) v.truth.reshape_position)
  where
    by : (b : Bool) → IsLayoutOf v.truth.raid_disks (if b then final_layout v.truth else first_layout v.truth)
    by true = final_is v is_array
    by false = first_is v is_array
