-- A record read sector by sector.
use Rattle.std.proofs.Common.{◌≡◌, ◌⊎◌, ℕ, ◌+◌, ◌*◌, ◌<◌, ◌≤◌, ◌==◌, ◌&&◌, Bool, true, false, nat_le, bytes_eq, if◌then◌else◌, codes, List, [], ◌∷◌, length, take, replicate, Option, Some, None, Ok, refl, sym, ap, ◌∙◌, inl, inr, arith, lit≤}
use Rattle.std.proofs.lemmas.Bool.{cases_lt, cases_Bool, both_ways, le-leb, leb-true}
use Rattle.std.proofs.lemmas.Bool.Decides.{nat_tests}
use Rattle.std.specs.List.{list_all}
use Rattle.rack.specs.Seen.{RackView}
use Rattle.rack.specs.Calls.{Reads}
use Rattle.rack.specs.Sequences.{OnlyReads}
use Rattle.rack.proofs.Reading.{unspent_before, value_then}
use Rattle.rack.specs.Targets.{Target}
use Rattle.shr_base.specs.Blocks.{bytes_at, number_at, put_at, Write}
use Rattle.shr_base.specs.Crc.{crc32_of}
use Rattle.shr_base.proofs.Blocks.{is_apart, are_laid_out, bytes_at-put_all, bytes_at-field, length-put_all}
use Rattle.array_image.specs.Record.{is_target, are_apart, half_of, record_of}
use Rattle.log_laws.specs.Bytes.{record_bytes, sector_in, targets_in, passes}
use Rattle.log_laws.proofs.Halves.{record_says, record_with, none_beyond, record_by_bytes}
use Rattle.log_laws.proofs.Records.{bytes_at-take, number_same, sum_field, sum_within, head_targets}

abbrev pub sector_field : ℕ → List ℕ → List Write
sector_field k block = record { offset = 512 * k; width = 512; bytes = block } ∷ []

sector_fits : (k : ℕ) (block : List ℕ) → k < 4092 → are_laid_out record_bytes (sector_field k block) ≡ true
sector_fits k block below = grind (arith, nat_tests)

sector_apart : (k j : ℕ) (block : List ℕ) → (j < k) ⊎ (k < j) → is_apart (512 * j) 512 (sector_field k block) ≡ true
sector_apart k j block (inl before) = grind (arith, nat_tests)
sector_apart k j block (inr behind) = grind (arith, nat_tests)

-- a sector that was put
pub sector_put : (bytes block : List ℕ) (k : ℕ) → length bytes ≡ record_bytes → length block ≡ 512 → k < 4092
    → sector_in (put_at (512 * k) 512 block bytes) k ≡ block
sector_put bytes block k long wide below = bytes_at-field 0 record_bytes (sector_field k block) bytes long (sector_fits k block below) (wide, tt)

-- and the others
pub sector_other : (bytes block : List ℕ) (k j : ℕ) → length bytes ≡ record_bytes → length block ≡ 512 → k < 4092 → (j < k) ⊎ (k < j)
    → sector_in (put_at (512 * k) 512 block bytes) j ≡ sector_in bytes j
sector_other bytes block k j long wide below other =
    bytes_at-put_all record_bytes (512 * j) 512 (sector_field k block) bytes long (sector_apart k j block other) (sector_fits k block below) (wide, tt)

pub length_put : (bytes block : List ℕ) (k : ℕ) → length bytes ≡ record_bytes → length block ≡ 512 → k < 4092
    → length (put_at (512 * k) 512 block bytes) ≡ record_bytes
length_put bytes block k long wide below = length-put_all record_bytes (sector_field k block) bytes long (sector_fits k block below) (wide, tt)

-- one sector more
pub read_more : {a b c : RackView} (disk first from at : ℕ) (bytes block : List ℕ) → length bytes ≡ record_bytes → length block ≡ 512 → at < 4092
    → first + 4092 ≤ a.sectors disk → disk < a.disks
    → OnlyReads a b → Reads b c disk (first + at) block {X = Unit {0}} (Ok tt)
    → (a.told disk → (k : ℕ) → from ≤ k → k < at → sector_in bytes k ≡ (a.held disk (first + k)).current)
    → a.told disk → (k : ℕ) → from ≤ k → k < at + 1 → sector_in (put_at (512 * at) 512 block bytes) k ≡ (a.held disk (first + k)).current
read_more {a} {b} {c} disk first from at bytes block long wide below half has reads read before told k low high =
    elim (cases_lt k at) [
      | inl early ↦ sector_other bytes block at k long wide below (inl early) ∙ before told k low early
      | inr late ↦
          let last : k ≡ at = omega (arith, late, high) in
          ap (λ j. sector_in (put_at (512 * at) 512 block bytes) j) last ∙ sector_put bytes block at long wide below
          ∙ value_then tt reads read has (omega (arith, half, below)) told
          ∙ ap (λ j. (a.held disk (first + j)).current) (sym last)
    ]

pub unspent_more : {a b c : RackView} (disk first from at : ℕ) (block : List ℕ)
    → OnlyReads a b → Reads b c disk (first + at) block {X = Unit {0}} (Ok tt)
    → ((k : ℕ) → from ≤ k → k < at → a.spent disk (first + k) ≡ false)
    → (k : ℕ) → from ≤ k → k < at + 1 → a.spent disk (first + k) ≡ false
unspent_more {a} {b} {c} disk first from at block reads read before k low high =
    elim (cases_lt k at) [
      | inl early ↦ before k low early
      | inr late ↦
          let last : k ≡ at = omega (arith, late, high) in
          ap (λ j. a.spent disk (first + j)) last ∙ unspent_before tt reads read
    ]

first_sector : (xs ys : List ℕ) → sector_in xs 0 ≡ sector_in ys 0 → take 512 xs ≡ take 512 ys
unfolding bytes_at
first_sector xs ys is = is

-- the count stands in the first sector
pub count_kept : (bytes other : List ℕ) → sector_in bytes 0 ≡ sector_in other 0 → number_at 12 4 bytes ≡ number_at 12 4 other
count_kept bytes other same =
    number_same 12 4 bytes other (sym (bytes_at-take 12 4 512 bytes (lit≤ tt)) ∙ ap (bytes_at 12 4) (first_sector bytes other same) ∙ bytes_at-take 12 4 512 other (lit≤ tt))

-- the sum, taken out of the head
pub sum_taken : (bytes : List ℕ) (count : ℕ) → length bytes ≡ record_bytes → count ≤ 3996
    → take (512 * (96 + count)) (put_at 8 4 (replicate 4 0) bytes) ≡ put_at 8 4 (replicate 4 0) (take (512 * (96 + count)) bytes)
sum_taken bytes count long few = sum_within 0 (512 * (96 + count)) bytes (omega arith) (omega (arith, long, few))

pub sum_targets : (bytes : List ℕ) (count : ℕ) → length bytes ≡ record_bytes → targets_in (put_at 8 4 (replicate 4 0) bytes) count ≡ targets_in bytes count
sum_targets bytes count long = head_targets (sum_field 0) bytes count long refl refl (refl, tt)

-- a record by its tests
if_passes : (a b c d e f g : Bool) (o : Option (List Target)) → c ≡ true → d ≡ true
    → (if a && (b && (c && (d && (e && (f && g))))) then o else None) ≡ (if a && b && e && f && g then o else None)
if_passes false b c d e f g o one two = refl
if_passes true false c d e f g o one two = refl
if_passes true true false d e f g o one two = absurd (both_ways false refl one)
if_passes true true true false e f g o one two = absurd (both_ways false refl two)
if_passes true true true true false f g o one two = refl
if_passes true true true true true false g o one two = refl
if_passes true true true true true true g o one two = refl

pub said : (number count : ℕ) (bytes : List ℕ) → count ≡ number_at 12 4 bytes → 1 ≤ count → count ≤ 3996
    → record_says number bytes ≡ (if passes number count bytes then Some (targets_in bytes count) else None)
said number count bytes is some few =
    ap (λ (n : ℕ). record_with number bytes n (take (512 * (96 + n)) bytes) (targets_in bytes n)) (sym is)
    ∙ if_passes (bytes_eq (bytes_at 0 8 bytes) (codes "SHRBODY1")) (number_at 16 8 bytes == number) (nat_le 1 count) (nat_le count 3996)
    (number_at 8 4 bytes == crc32_of (put_at 8 4 (replicate 4 0) (take (512 * (96 + count)) bytes)))
    (list_all is_target (targets_in bytes count)) (are_apart (targets_in bytes count)) (Some (targets_in bytes count))
    (le-leb 1 count some) (le-leb count 3996 few)

off_third : (a b c r : Bool) (o : Option (List Target)) → c ≡ false → (if a && (b && (c && r)) then o else None) ≡ None
off_third false b c r o is = refl
off_third true false c r o is = refl
off_third true true false r o is = refl
off_third true true true r o is = absurd (both_ways true is refl)

not_le : (m n : ℕ) → n < m → nat_le m n ≡ false
not_le m n less = elim (cases_Bool (nat_le m n)) [ inl le ↦ absurd (omega (arith, less, leb-true m n le)) | inr is ↦ is ]

-- no record has no targets, or more than the most
pub said_none : (number : ℕ) (bytes : List ℕ) → (number_at 12 4 bytes ≡ 0) ⊎ (3996 < number_at 12 4 bytes) → record_says number bytes ≡ None
said_none number bytes (inl none) =
    off_third (bytes_eq (bytes_at 0 8 bytes) (codes "SHRBODY1")) (number_at 16 8 bytes == number) (nat_le 1 (number_at 12 4 bytes)) _ (Some (targets_in bytes (number_at 12 4 bytes)))
    (ap (nat_le 1) none)
said_none number bytes (inr many) =
    none_beyond (bytes_eq (bytes_at 0 8 bytes) (codes "SHRBODY1")) (number_at 16 8 bytes == number) (number_at 8 4 bytes) (number_at 12 4 bytes)
    (take (512 * (96 + number_at 12 4 bytes)) bytes) (targets_in bytes (number_at 12 4 bytes)) (not_le (number_at 12 4 bytes) 3996 many)

-- what was read is the record of the slice, if it passes
pub loaded : (number count first : ℕ) (slice : ℕ → List ℕ) (bytes : List ℕ) (whole : Bool) (targets : List Target)
    → first ≡ half_of number → count ≡ number_at 12 4 bytes → 1 ≤ count → count ≤ 3996
    → ((k : ℕ) → k < 96 + count → sector_in bytes k ≡ slice (first + k))
    → whole ≡ passes number count bytes → (whole ≡ true → targets ≡ targets_in bytes count)
    → record_of number slice ≡ (if whole then Some targets else None)
loaded number count first slice bytes whole targets at is some few sectors passing kept =
    let here : (k : ℕ) → k < 96 + count → slice (half_of number + k) ≡ sector_in bytes k =
    λ k below. ap (λ f. slice (f + k)) (sym at) ∙ sym (sectors k below) in
    record_by_bytes number slice bytes (λ k below. here k (omega arith)) (λ _ k below. here k (omega (arith, is, below)))
    ∙ said number count bytes is some few
    ∙ ap (λ b. if b then Some (targets_in bytes count) else None) (sym passing)
    ∙ by_whole whole kept
  where
    by_whole : (b : Bool) → (b ≡ true → targets ≡ targets_in bytes count) → (if b then Some (targets_in bytes count) else None) ≡ (if b then Some targets else None)
    by_whole true is = ap Some (sym (is refl))
    by_whole false is = refl

pub not_loaded : (number first : ℕ) (slice : ℕ → List ℕ) (bytes : List ℕ) → first ≡ half_of number
    → (number_at 12 4 bytes ≡ 0) ⊎ (3996 < number_at 12 4 bytes)
    → ((k : ℕ) → k < 96 → sector_in bytes k ≡ slice (first + k))
    → record_of number slice ≡ None
not_loaded number first slice bytes at none heads =
    record_by_bytes number slice bytes (λ k below. ap (λ f. slice (f + k)) (sym at) ∙ sym (heads k below)) (λ few k below. by_count none few k below)
    ∙ said_none number bytes none
  where
    by_count : (number_at 12 4 bytes ≡ 0) ⊎ (3996 < number_at 12 4 bytes) → number_at 12 4 bytes ≤ 3996 → (k : ℕ) → k < 96 + number_at 12 4 bytes
        → slice (half_of number + k) ≡ sector_in bytes k
    by_count (inl zero) few k below = ap (λ f. slice (f + k)) (sym at) ∙ sym (heads k (omega (arith, zero, below)))
    by_count (inr many) few k below = absurd (omega (arith, many, few))
