-- Bytes of sectors in a row.
use Rattle.std.proofs.Common.{◌≡◌, ℕ, zero, suc, lit<, add-zero, ◌+◌, ◌*◌, ◌<◌, ◌≤◌, ◌/◌, ◌%◌, List, [], ◌∷◌, ◌++◌, length, take, drop, flat_map, refl, sym, ap, ◌∙◌, arith, length-append, add-one, length-drop, take_at, nat_lt, false, position, Some, None}
use Rattle.std.proofs.Math.Nat.{div-add-mod, div-mul-le_self, mod-lt}
use Rattle.std.proofs.lemmas.List.{take_all, drop_all, append-nil, flat_map_more}
use Rattle.std.specs.List.{range_with_len, position_or_len}
use Rattle.shr_base.specs.Blocks.{put_at}
use Rattle.gpt_table.specs.Disk.{Contents, joined}
use Rattle.image_text.specs.Contents.{sectors_over}
use Rattle.std.proofs.lemmas.Bool.Decides.{nat_tests}
use Rattle.md_super.specs.Layout.{decoded}
use Rattle.image_text.specs.Lines.{superblock_at}
use Rattle.image_text.specs.Volume.{is_zero, before_zero, four_sectors}

range_more : (a n : ℕ) → range_with_len a (suc n) ≡ range_with_len a n ++ (a + n) ∷ []
range_more a zero = rw add-zero
range_more a (suc n) =
    let same : (a + 1) + n ≡ a + suc n = omega arith in
    ap (λ rest. a ∷ rest) (range_more (a + 1) n) ∙ ap (λ k. a ∷ (range_with_len (a + 1) n ++ k ∷ [])) same

-- one more sector behind the others
pub joined_more : (image : Contents) (first n : ℕ) → joined image first (n + 1) ≡ joined image first n ++ image (first + n)
joined_more image first n =
    ap (joined image first) (add-one n) ∙ ap (flat_map image) (range_more first n)
    ∙ sym (flat_map_more image [] (range_with_len first n) (first + n))

-- the sectors that bytes touch lie where the bytes lie
pub sectors_inside : (at count sectors : ℕ) → at + count ≤ 512 * sectors → at / 512 + sectors_over (at % 512) count ≤ sectors
sectors_inside at count sectors inside =
    let whole = div-add-mod at 512 in
    let most = div-mul-le_self (at % 512 + count + 511) 512 in
    omega (arith, whole, most)

-- and hold all of them
pub sectors_hold : (skipped count : ℕ) → skipped + count ≤ 512 * sectors_over skipped count
sectors_hold skipped count =
    let whole = div-add-mod (skipped + count + 511) 512 in
    let below : (skipped + count + 511) % 512 < 512 = mod-lt (skipped + count + 511) (lit< tt) in
    omega (arith, whole, below)

-- the bytes before the first zero
pub zero_found : (bytes : List ℕ) (i : ℕ) → position is_zero bytes ≡ Some i → take i bytes ≡ before_zero bytes
zero_found bytes i found =
    let at : position_or_len is_zero bytes ≡ i = grind arith in
    ap (λ n. take n bytes) (sym at)

pub zero_none : (bytes : List ℕ) → position is_zero bytes ≡ None → bytes ≡ before_zero bytes
zero_none bytes none =
    let past : length bytes ≤ position_or_len is_zero bytes = grind arith in
    sym (take_all (position_or_len is_zero bytes) bytes past)

-- two sectors written into a block of zeros
pub two_written : (zeros low high : List ℕ) → length zeros ≡ 1024 → length low ≡ 512 → length high ≡ 512
    → put_at 512 512 high (put_at 0 512 low zeros) ≡ low ++ high
unfolding put_at
two_written zeros low high size one two =
    let long : length (low ++ drop 512 zeros) ≡ 1024 = omega (arith, length-append low (drop 512 zeros), length-drop 512 zeros) in
    let none : drop 1024 (low ++ drop 512 zeros) ≡ [] = drop_all 1024 (low ++ drop 512 zeros) (omega arith) in
    let first : take 512 (low ++ drop 512 zeros) ≡ low = take_at low (drop 512 zeros) 512 one in
    rw (first, none) (ap (λ t. low ++ t) (append-nil high))

-- four sectors in a row
pub four_read : (image : Contents) (base : ℕ) (a b c d : List ℕ) → a ≡ image base → b ≡ image (base + 1) → c ≡ image (base + 2) → d ≡ image (base + 2 + 1)
    → four_sectors image base ≡ a ∷ b ∷ c ∷ d ∷ []
four_read image base a b c d one two three four =
    let last : base + 2 + 1 ≡ base + 3 = omega arith in
    let fourth : d ≡ image (base + 3) = four ∙ ap image last in
    rw (one, two, three, fourth) refl

-- a superblock in a place that has room for it
pub superblock_there : (image : Contents) (first count : ℕ) (low high : List ℕ) → 10 ≤ count → low ≡ image (first + 8) → high ≡ image (first + 8 + 1)
    → decoded (low ++ high) ≡ superblock_at image first count
superblock_there image first count low high room one two =
    let test : nat_lt count 10 ≡ false = grind (arith, nat_tests) in
    let next : first + 8 + 1 ≡ first + 9 = omega arith in
    let second : high ≡ image (first + 9) = two ∙ ap image next in
    rw (test, one, second) refl
