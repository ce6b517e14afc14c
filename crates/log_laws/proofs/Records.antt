-- The bytes of a record: its fields and its targets.
use Rattle.std.proofs.Common.{◌≡◌, ℕ, zero, suc, ◌+◌, ◌-◌, ◌*◌, ◌^◌, ◌<◌, ◌≤◌, Bool, true, false, ◌&&◌, ◌||◌, nat_le, List, [], ◌∷◌, ◌++◌, length, map, take, drop, replicate, codes, refl, sym, ap, ◌∙◌, arith, take-append-drop, slice_index_or}
use Rattle.std.specs.Simd.{first_chunks}
use Rattle.std.proofs.lemmas.Bool.{leb-true, le-leb, and_parts, and_from}
use Rattle.std.proofs.lemmas.Bool.Decides.{nat_tests}
use Rattle.std.proofs.lemmas.List.{take_at, length-take-le, drop-take, take-take, drop-drop}
use Rattle.std.proofs.Math.Nat.{mul-suc}
use Rattle.std.proofs.lemmas.List.FromFn.{map-range_with_len_more}
use Rattle.std.specs.List.{range_with_len}
use Rattle.byteorder.specs.Endian.{little_bytes, little_number}
use Rattle.shr_base.specs.Blocks.{bytes_at, number_at, put_at, put_all, Write}
use Rattle.shr_base.specs.Crc.{crc32_of}
use Rattle.shr_base.proofs.Blocks.{is_apart, are_laid_out, AreWide, bytes_at-put_all, bytes_at-field, number_at-field, length-put_all, put_all-append, put_at-put_at}
use Rattle.rack.specs.Targets.{target}
use Rattle.log_laws.specs.Bytes.{record_bytes, sector_in, target_in, targets_in, IsSealed}

-- the whole of a slice that was lent and written
pub written_back : (new old : List ℕ) → length new ≡ length old → take (length old) (new ++ drop (length new) old) ≡ new
written_back new old same = take_at new (drop (length new) old) (length old) same

pub map_range_same : {X : Type 0} (f g : ℕ → X) (a n : ℕ) → ((k : ℕ) → a ≤ k → k < a + n → f k ≡ g k) → map f (range_with_len a n) ≡ map g (range_with_len a n)
map_range_same f g a zero same = refl
map_range_same f g a (suc n) same =
    λ i. same a (omega arith) (omega arith) i ∷ map_range_same f g (a + 1) n (λ k from below. same k (omega arith) (omega arith)) i

-- a field goes by its bytes
pub number_same : (at size : ℕ) (xs ys : List ℕ) → bytes_at at size xs ≡ bytes_at at size ys → number_at at size xs ≡ number_at at size ys
unfolding number_at
number_same at size xs ys same = ap (little_number size) same

-- one among the first bytes is that of all
pub bytes_at-take : (at size used : ℕ) (xs : List ℕ) → at + size ≤ used → bytes_at at size (take used xs) ≡ bytes_at at size xs
unfolding bytes_at
bytes_at-take at size used xs within =
    let parts : used ≡ at + (used - at) = omega arith in
    ap (λ (n : ℕ). take size (drop at (take n xs))) parts
    ∙ ap (take size) (drop-take at (used - at) xs)
    ∙ take-take size (used - at) (drop at xs) (omega arith)

-- a target goes by its fields
target_same : (bytes other : List ℕ) (k : ℕ)
    → bytes_at (64 + 12 * k) 4 bytes ≡ bytes_at (64 + 12 * k) 4 other
    → bytes_at (68 + 12 * k) 8 bytes ≡ bytes_at (68 + 12 * k) 8 other
    → sector_in bytes (96 + k) ≡ sector_in other (96 + k)
    → target_in bytes k ≡ target_in other k
unfolding number_at
target_same bytes other k disk sector payload = λ i. target (ap (little_number 4) disk i) (ap (little_number 8) sector i) (payload i)

-- ---- a target more

abbrev pub target_fields : ℕ → ℕ → ℕ → List ℕ → List Write
target_fields c disk sector from =
    record { offset = 64 + 12 * c; width = 4; bytes = little_bytes 4 disk }
    ∷ record { offset = 68 + 12 * c; width = 8; bytes = little_bytes 8 sector }
    ∷ record { offset = 512 * (96 + c); width = 512; bytes = from }
    ∷ []

laid_out : (c disk sector : ℕ) (from : List ℕ) → c < 3996 → are_laid_out record_bytes (target_fields c disk sector from) ≡ true
laid_out c disk sector from few = grind (arith, nat_tests)

apart_field : (c k disk sector : ℕ) (from : List ℕ) (at size : ℕ) → 64 + 12 * k ≤ at → at + size ≤ 64 + 12 * k + 12 → k < c → c < 3996
    → is_apart at size (target_fields c disk sector from) ≡ true
apart_field c k disk sector from at size low high before few = grind (arith, nat_tests)

apart_payload : (c k disk sector : ℕ) (from : List ℕ) → k < c → c < 3996 → is_apart (512 * (96 + k)) 512 (target_fields c disk sector from) ≡ true
apart_payload c k disk sector from before few = grind (arith, nat_tests)

-- the bytes are those of the targets before, and one more
pub added_targets : (bytes : List ℕ) (c disk sector : ℕ) (from : List ℕ) → length bytes ≡ record_bytes → c < 3996
    → disk < 2 ^ 32 → sector < 2 ^ 64 → length from ≡ 512
    → targets_in (put_all (target_fields c disk sector from) bytes) (c + 1) ≡ targets_in bytes c ++ target disk sector from ∷ []
unfolding targets_in
added_targets bytes c disk sector from long few fits_disk fits_sector fits_from =
    let fields : List Write = target_fields c disk sector from in
    let new : List ℕ = put_all fields bytes in
    let wide : AreWide fields = (refl, (refl, (fits_from, tt))) in
    let laid : are_laid_out record_bytes fields ≡ true = laid_out c disk sector from few in
    let kept : (at size : ℕ) → is_apart at size fields ≡ true → bytes_at at size new ≡ bytes_at at size bytes =
    λ at size apart. bytes_at-put_all record_bytes at size fields bytes long apart laid wide in
    let last : target_in new c ≡ target disk sector from =
    λ i. target
    (number_at-field 0 record_bytes disk fields bytes long laid wide refl fits_disk i)
    (number_at-field 1 record_bytes sector fields bytes long laid wide refl fits_sector i)
    (bytes_at-field 2 record_bytes fields bytes long laid wide i) in
    map-range_with_len_more (target_in new) 0 c c (omega arith)
    ∙ ap (λ ts. ts ++ target_in new c ∷ [])
    (map_range_same (target_in new) (target_in bytes) 0 c
    (λ k from_zero below.
    target_same new bytes k
    (kept (64 + 12 * k) 4 (apart_field c k disk sector from (64 + 12 * k) 4 (omega arith) (omega arith) (omega arith) few))
    (kept (68 + 12 * k) 8 (apart_field c k disk sector from (68 + 12 * k) 8 (omega arith) (omega arith) (omega arith) few))
    (kept (512 * (96 + k)) 512 (apart_payload c k disk sector from (omega arith) few))))
    ∙ ap (λ t. targets_in bytes c ++ t ∷ []) last

-- ---- the head

abbrev pub head_fields : ℕ → ℕ → List Write
head_fields number count =
    record { offset = 0; width = 8; bytes = codes "SHRBODY1" }
    ∷ record { offset = 8; width = 4; bytes = little_bytes 4 0 }
    ∷ record { offset = 12; width = 4; bytes = little_bytes 4 count }
    ∷ record { offset = 16; width = 8; bytes = little_bytes 8 number }
    ∷ []

abbrev pub sum_field : ℕ → List Write
sum_field sum = record { offset = 8; width = 4; bytes = little_bytes 4 sum } ∷ []

-- whether fields end before some byte
abbrev pub ends_by : ℕ → List Write → Bool
ends_by n [] = true
ends_by n (field ∷ fields) = nat_le (field.offset + field.width) n && ends_by n fields

apart_above : (n at size : ℕ) (fields : List Write) → n ≤ at → ends_by n fields ≡ true → is_apart at size fields ≡ true
apart_above n at size [] past ends = refl
apart_above n at size (field ∷ fields) past ends =
    let parts = and_parts (nat_le (field.offset + field.width) n) (ends_by n fields) ends in
    and_from _ _ (or_right (nat_le (at + size) field.offset) _ (le-leb (field.offset + field.width) at (omega (arith, leb-true (field.offset + field.width) n parts.0))))
    (apart_above n at size fields past parts.1)
  where
    or_right : (b c : Bool) → c ≡ true → (b || c) ≡ true
    or_right true c is = refl
    or_right false c is = is

-- fields of the head leave the targets as they are
pub head_targets : (fields : List Write) (bytes : List ℕ) (count : ℕ) → length bytes ≡ record_bytes → ends_by 64 fields ≡ true
    → are_laid_out record_bytes fields ≡ true → AreWide fields → targets_in (put_all fields bytes) count ≡ targets_in bytes count
unfolding targets_in
head_targets fields bytes count long ends laid wide =
    map_range_same (target_in (put_all fields bytes)) (target_in bytes) 0 count
    (λ k from_zero below.
    let kept : (at size : ℕ) → 64 ≤ at → bytes_at at size (put_all fields bytes) ≡ bytes_at at size bytes =
    λ at size past. bytes_at-put_all record_bytes at size fields bytes long (apart_above 64 at size fields past ends) laid wide in
    target_same (put_all fields bytes) bytes k (kept (64 + 12 * k) 4 (omega arith)) (kept (68 + 12 * k) 8 (omega arith)) (kept (512 * (96 + k)) 512 (omega arith)))

-- the first bytes of a block with its sum written are those bytes with it
pub sum_within : (sum used : ℕ) (block : List ℕ) → 12 ≤ used → used ≤ length block
    → take used (put_all (sum_field sum) block) ≡ put_all (sum_field sum) (take used block)
sum_within sum used block some within =
    let front : List ℕ = take used block in
    let long : length front ≡ used = length-take-le used block within in
    let laid : are_laid_out used (sum_field sum) ≡ true = and_from _ _ (le-leb 12 used some) refl in
    ap (λ (xs : List ℕ). take used (put_all (sum_field sum) xs)) (sym (take-append-drop used block))
    ∙ ap (take used) (put_all-append used (sum_field sum) front (drop used block) long laid (refl, tt))
    ∙ take_at (put_all (sum_field sum) front) (drop used block) used (length-put_all used (sum_field sum) front long laid (refl, tt))

abbrev pub headed : ℕ → ℕ → List ℕ → List ℕ
headed number count bytes = put_all (head_fields number count) bytes

pub sealed_targets : (bytes : List ℕ) (number count sum : ℕ) → length bytes ≡ record_bytes
    → targets_in (put_all (sum_field sum) (headed number count bytes)) count ≡ targets_in bytes count
sealed_targets bytes number count sum long =
    head_targets (sum_field sum) (headed number count bytes) count (length-put_all record_bytes (head_fields number count) bytes long refl (refl, (refl, (refl, (refl, tt))))) refl refl (refl, tt)
    ∙ head_targets (head_fields number count) bytes count long refl refl (refl, (refl, (refl, (refl, tt))))

-- the head's fields read back, and the sum is that of all that is used
pub is_sealed : (bytes : List ℕ) (number count sum : ℕ) → length bytes ≡ record_bytes → 0 < count → count ≤ 3996 → number < 2 ^ 64
    → sum ≡ crc32_of (take (512 * (96 + count)) (headed number count bytes))
    → sum < 2 ^ 32
    → IsSealed number count (put_all (sum_field sum) (headed number count bytes))
is_sealed bytes number count sum long some few fits is small =
    let block : List ℕ = headed number count bytes in
    let fields : List Write = head_fields number count in
    let wide : AreWide fields = (refl, (refl, (refl, (refl, tt)))) in
    let long_block : length block ≡ record_bytes = length-put_all record_bytes fields bytes long refl wide in
    let kept : (at size : ℕ) → is_apart at size (sum_field sum) ≡ true → bytes_at at size (put_all (sum_field sum) block) ≡ bytes_at at size block =
    λ at size apart. bytes_at-put_all record_bytes at size (sum_field sum) block long_block apart refl (refl, tt) in
    let used : ℕ = 512 * (96 + count) in
    let front : List ℕ = take used block in
    let zeros : bytes_at 8 4 front ≡ replicate 4 0 = bytes_at-take 8 4 used block (omega arith) ∙ bytes_at-field 1 record_bytes fields bytes long refl wide in
    record {
      long = length-put_all record_bytes (sum_field sum) block long_block refl (refl, tt);
      word = kept 0 8 refl ∙ bytes_at-field 0 record_bytes fields bytes long refl wide;
      numbered = number_same 16 8 (put_all (sum_field sum) block) block (kept 16 8 refl) ∙ number_at-field 3 record_bytes number fields bytes long refl wide refl fits;
      counted = number_same 12 4 (put_all (sum_field sum) block) block (kept 12 4 refl) ∙ number_at-field 2 record_bytes count fields bytes long refl wide refl (omega arith);
      some = omega arith;
      few = few;
      summed = number_at-field 0 record_bytes sum (sum_field sum) block long_block refl (refl, tt) refl small
          ∙ is
          ∙ ap crc32_of (sym (put_at-put_at 8 4 (little_bytes 4 sum) (replicate 4 0) front (omega (arith, length-take-le used block (omega arith))) refl zeros))
          ∙ ap (λ xs. crc32_of (put_at 8 4 (replicate 4 0) xs)) (sym (sum_within sum used block (omega arith) (omega arith)));
    }

-- a chunk of a row of chunks
pub chunk_at : (n count k : ℕ) (xs : List ℕ) → k < count → slice_index_or (first_chunks n count xs) k [] ≡ take n (drop (n * k) xs)
chunk_at n zero k xs below = absurd (omega arith)
chunk_at n (suc count) zero xs below = ap (λ m. take n (drop m xs)) (let e : 0 ≡ n * 0 = omega arith in e)
chunk_at n (suc count) (suc k) xs below =
    let e : n + n * k ≡ n * suc k = omega (arith, mul-suc n k) in
    chunk_at n count k (drop n xs) (omega arith) ∙ ap (take n) (drop-drop (n * k) n xs ∙ ap (λ m. drop m xs) e)
