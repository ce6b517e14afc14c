-- What is written of a header reads back, with its sum.
use Rattle.std.proofs.Common.{◌≡◌, ℕ, ◌+◌, ◌^◌, ◌<◌, ◌≤◌, ◌&&◌, true, List, [], ◌∷◌, ◌++◌, length, take, drop, replicate, refl, sym, ap, ◌∙◌, arith, codes, bytes_eq, append_assoc, take-append-drop, length-append, length-drop, nat_le, lit<}
use Rattle.gpt_table.specs.declared.TableCopy.TheVariants.{Primary, Backup}
use Rattle.std.proofs.lemmas.Bool.{and_from, and_parts, eq-eqb, leb-true}
use Rattle.std.proofs.lemmas.List.{take_at, drop_at, length-take-le, drop-drop}
use Rattle.byteorder.specs.Endian.{little_bytes}
use Rattle.shr_base.specs.Blocks.{bytes_at, number_at, put_at, put_all, Write}
use Rattle.shr_base.specs.Crc.{crc32_of}
use Rattle.shr_base.proofs.Blocks.{bytes_at-field, number_at-field, bytes_at-zeros, AreWide, are_laid_out, is_apart}
use Rattle.gpt_table.specs.declared.TableCopy.{TableCopy}
use Rattle.gpt_table.specs.Format.{header_fields, header_sector, entries_sector, is_header, header_sum}

-- a field that is overwritten by what stood there before is gone
put_back : (offset width : ℕ) (old new block : List ℕ) → offset + width ≤ length block → length new ≡ width → bytes_at offset width block ≡ old
    → put_at offset width old (put_at offset width new block) ≡ block
unfolding put_at bytes_at
put_back offset width old new block within wide was =
    let front : length (take offset block) ≡ offset = length-take-le offset block (omega arith) in
    let both : length (take offset block ++ new) ≡ offset + width = omega (arith, length-append (take offset block) new) in
    let inner : List ℕ = take offset block ++ (new ++ drop (offset + width) block) in
    let first : take offset inner ≡ take offset block = take_at (take offset block) (new ++ drop (offset + width) block) offset front in
    let last : drop (offset + width) inner ≡ drop (offset + width) block =
    ap (drop (offset + width)) (sym (append_assoc (take offset block) new (drop (offset + width) block)))
    ∙ drop_at (take offset block ++ new) (drop (offset + width) block) (offset + width) both in
    let middle : old ++ drop (offset + width) block ≡ drop offset block =
    ap (λ (o : List ℕ). o ++ drop (offset + width) block) (sym was)
    ∙ ap (λ (d : List ℕ). take width (drop offset block) ++ d) (sym (drop-drop width offset block))
    ∙ take-append-drop width (drop offset block) in
    ap (λ (t : List ℕ). t ++ (old ++ drop (offset + width) inner)) first
    ∙ ap (λ (d : List ℕ). take offset block ++ (old ++ d)) last
    ∙ ap (λ (d : List ℕ). take offset block ++ d) middle
    ∙ take-append-drop offset block

length-put_at : (offset width : ℕ) (bytes block : List ℕ) → offset + width ≤ length block → length bytes ≡ width
    → length (put_at offset width bytes block) ≡ length block
unfolding put_at
length-put_at offset width bytes block within wide =
    omega (arith, length-append (take offset block) (bytes ++ drop (offset + width) block), length-append bytes (drop (offset + width) block), length-take-le offset block (omega arith), length-drop (offset + width) block)

length-put_all : (total : ℕ) (fields : List Write) (block : List ℕ) → length block ≡ total → are_laid_out total fields ≡ true → AreWide fields
    → length (put_all fields block) ≡ total
length-put_all total [] block long laid_out wide = long
length-put_all total (field ∷ fields) block long laid_out wide =
    let parts = and_parts (nat_le (field.offset + field.width) total) (is_apart field.offset field.width fields && are_laid_out total fields) laid_out in
    let rest = and_parts (is_apart field.offset field.width fields) (are_laid_out total fields) parts.1 in
    let within : field.offset + field.width ≤ length block = omega (arith, leb-true (field.offset + field.width) total parts.0) in
    length-put_all total fields (put_at field.offset field.width field.bytes block)
    (length-put_at field.offset field.width field.bytes block within wide.0 ∙ long) rest.1 wide.1

-- the places of a copy are numbers of 64 bits
own_fits : (copy : TableCopy) (sectors : ℕ) → 67 ≤ sectors → sectors < 2 ^ 64 → header_sector copy sectors < 2 ^ 64
own_fits Primary sectors room small = omega arith
own_fits Backup sectors room small = omega arith

start_fits : (copy : TableCopy) (sectors : ℕ) → 67 ≤ sectors → sectors < 2 ^ 64 → entries_sector copy sectors < 2 ^ 64
start_fits Primary sectors room small = omega arith
start_fits Backup sectors room small = omega arith

-- the fields with the sum behind them
abbrev pub summed_fields : TableCopy → ℕ → List ℕ → ℕ → ℕ → List Write
summed_fields copy sectors guid entries_sum sum =
    header_fields copy sectors guid entries_sum ++ record { offset = 16; width = 4; bytes = little_bytes 4 sum } ∷ []

summed_wide : (copy : TableCopy) (sectors : ℕ) (guid : List ℕ) (entries_sum sum : ℕ) → length guid ≡ 16 →
    AreWide (summed_fields copy sectors guid entries_sum sum)
summed_wide copy sectors guid entries_sum sum long =
    (refl, (refl, (refl, (refl, (refl, (refl, (refl, (long, (refl, (refl, (refl, (refl, (refl, tt)))))))))))))

fields_wide : (copy : TableCopy) (sectors : ℕ) (guid : List ℕ) (entries_sum : ℕ) → length guid ≡ 16 →
    AreWide (header_fields copy sectors guid entries_sum)
fields_wide copy sectors guid entries_sum long =
    (refl, (refl, (refl, (refl, (refl, (refl, (refl, (long, (refl, (refl, (refl, (refl, tt))))))))))))

-- without its sum, a header's field for it is zero: taking the sum out again gives that header back
sum_is_right : (copy : TableCopy) (sectors : ℕ) (guid : List ℕ) (entries_sum sum : ℕ) → length guid ≡ 16
    → put_at 16 4 (replicate 4 0) (put_at 16 4 (little_bytes 4 sum) (put_all (header_fields copy sectors guid entries_sum) (replicate 512 0)))
    ≡ put_all (header_fields copy sectors guid entries_sum) (replicate 512 0)
sum_is_right copy sectors guid entries_sum sum long =
    let fields = header_fields copy sectors guid entries_sum in
    let wide = fields_wide copy sectors guid entries_sum long in
    let all : length (put_all fields (replicate 512 0)) ≡ 512 = length-put_all 512 fields (replicate 512 0) refl refl wide in
    put_back 16 4 (replicate 4 0) (little_bytes 4 sum) (put_all fields (replicate 512 0)) (omega arith) refl
    (bytes_at-zeros 512 16 4 fields (omega arith) refl refl wide)

-- a header as it is written is one
pub header_reads : (copy : TableCopy) (sectors : ℕ) (guid : List ℕ) (entries_sum sum : ℕ) → 67 ≤ sectors → sectors < 2 ^ 64 → length guid ≡ 16
    → sum < 2 ^ 32 → sum ≡ crc32_of (take 92 (put_all (header_fields copy sectors guid entries_sum) (replicate 512 0)))
    → is_header copy sectors (put_all (summed_fields copy sectors guid entries_sum sum) (replicate 512 0)) ≡ true
header_reads copy sectors guid entries_sum sum room small long fits is =
    let fields = summed_fields copy sectors guid entries_sum sum in
    let wide = summed_wide copy sectors guid entries_sum sum long in
    let header : List ℕ = put_all fields (replicate 512 0) in
    let signature : bytes_at 0 8 header ≡ codes "EFI PART" = bytes_at-field 0 512 fields (replicate 512 0) refl refl wide in
    let size : number_at 12 4 header ≡ 92 = number_at-field 2 512 92 fields (replicate 512 0) refl refl wide refl (lit< tt) in
    let sum_is : number_at 16 4 header ≡ sum = number_at-field 12 512 sum fields (replicate 512 0) refl refl wide refl (omega arith) in
    let own : number_at 24 8 header ≡ header_sector copy sectors =
    number_at-field 3 512 (header_sector copy sectors) fields (replicate 512 0) refl refl wide refl (own_fits copy sectors room small) in
    let start : number_at 72 8 header ≡ entries_sector copy sectors =
    number_at-field 8 512 (entries_sector copy sectors) fields (replicate 512 0) refl refl wide refl (start_fits copy sectors room small) in
    let count : number_at 80 4 header ≡ 128 = number_at-field 9 512 128 fields (replicate 512 0) refl refl wide refl (lit< tt) in
    let each : number_at 84 4 header ≡ 128 = number_at-field 10 512 128 fields (replicate 512 0) refl refl wide refl (lit< tt) in
    let whole : header_sum header ≡ sum =
    ap (λ (n : ℕ). crc32_of (take n (put_at 16 4 (replicate 4 0) header))) size
    ∙ ap (λ (h : List ℕ). crc32_of (take 92 h)) (sum_is_right copy sectors guid entries_sum sum long) ∙ sym is in
    and_from _ _ (and_from _ _ (and_from _ _ (and_from _ _ (and_from _ _ (and_from _ _ (and_from _ _
    (ap (λ (b : List ℕ). bytes_eq b (codes "EFI PART")) signature)
    (ap (λ (n : ℕ). nat_le 92 n) size)) (ap (λ (n : ℕ). nat_le n 512) size))
    (eq-eqb _ _ (sum_is ∙ sym whole))) (eq-eqb _ _ own)) (eq-eqb _ _ start)) (eq-eqb _ _ count)) (eq-eqb _ _ each)

-- the other fields that are looked at
pub header_entries_sum : (copy : TableCopy) (sectors : ℕ) (guid : List ℕ) (entries_sum sum : ℕ) → length guid ≡ 16 → entries_sum < 2 ^ 32
    → number_at 88 4 (put_all (summed_fields copy sectors guid entries_sum sum) (replicate 512 0)) ≡ entries_sum
header_entries_sum copy sectors guid entries_sum sum long fits =
    number_at-field 11 512 entries_sum (summed_fields copy sectors guid entries_sum sum) (replicate 512 0) refl refl
    (summed_wide copy sectors guid entries_sum sum long) refl (omega arith)

pub header_disk_id : (copy : TableCopy) (sectors : ℕ) (guid : List ℕ) (entries_sum sum : ℕ) → length guid ≡ 16
    → bytes_at 56 16 (put_all (summed_fields copy sectors guid entries_sum sum) (replicate 512 0)) ≡ guid
header_disk_id copy sectors guid entries_sum sum long =
    bytes_at-field 7 512 (summed_fields copy sectors guid entries_sum sum) (replicate 512 0) refl refl
    (summed_wide copy sectors guid entries_sum sum long)
