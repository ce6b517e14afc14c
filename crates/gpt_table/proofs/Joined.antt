-- The bytes of sectors in a row, one sector further.
use Rattle.std.proofs.Common.{◌≡◌, ℕ, suc, ◌+◌, ◌*◌, ◌≤◌, List, [], ◌++◌, length, take, drop, flat_map, refl, sym, ap, ◌∙◌, arith, append_assoc, add-one, length-append, take_at, take_all, zero, add-zero, inl, inr, None, false, ◌<◌}
use Rattle.std.specs.List.{range_with_len}
use Rattle.std.proofs.lemmas.List.{flat_map_more, length-take-le}
use Rattle.shr_base.specs.Blocks.{put_at}
use Rattle.gpt_table.specs.Disk.{Contents, joined, entries_bytes, table_at, IsOfCopy}
use Rattle.gpt_table.specs.Format.{header_sector, entries_sector, table_of, is_valid}
use Rattle.gpt_table.specs.declared.TableCopy.{TableCopy}
use Rattle.std.proofs.lemmas.Bool.{and_left, lt-leb}
use Rattle.gpt_table.proofs.Ranges.{range_more}

pub joined_more : (disk : Contents) (first n : ℕ) → joined disk first (n + 1) ≡ joined disk first n ++ disk (first + n)
joined_more disk first n =
    ap (joined disk first) (add-one n) ∙ ap (flat_map disk) (range_more first n)
    ∙ sym (flat_map_more disk [] (range_with_len first n) (first + n))

-- a block written behind what was written
pub take_put : (offset end : ℕ) (bytes block : List ℕ) → end ≡ offset + length bytes → offset ≤ length block →
    take end (put_at offset (length bytes) bytes block) ≡ take offset block ++ bytes
unfolding put_at
take_put offset end bytes block is within =
    let long : length (take offset block ++ bytes) ≡ end =
    omega (arith, length-append (take offset block) bytes, length-take-le offset block within) in
    ap (take end) (sym (append_assoc (take offset block) bytes (drop (offset + length bytes) block)))
    ∙ take_at (take offset block ++ bytes) (drop (offset + length bytes) block) end long

-- all sectors of the entries were read
pub entries_read : (disk : Contents) (first : ℕ) (bytes : List ℕ) (n : ℕ) → n ≡ 32 → length bytes ≡ 16384 →
    take (512 * n) bytes ≡ joined disk first n → bytes ≡ entries_bytes disk first
unfolding entries_bytes
entries_read disk first bytes n is long read =
    sym (take_all (512 * n) bytes (omega arith)) ∙ read ∙ ap (joined disk first) is

-- sectors that hold the same are the same bytes
pub joined_agrees : (d e : Contents) (first n : ℕ) → ((k : ℕ) → k < n → d (first + k) ≡ e (first + k)) →
    joined d first n ≡ joined e first n
joined_agrees d e first zero same = refl
joined_agrees d e first (suc n) same =
    let here : d first ≡ e first = ap d (sym (add-zero first)) ∙ same 0 (omega arith) ∙ ap e (add-zero first) in
    let rest = joined_agrees d e (first + 1) n
    (λ k below.
    let next : (first + 1) + k ≡ first + (k + 1) = omega arith in
    ap d next ∙ same (k + 1) (omega arith) ∙ ap e (sym next)) in
    ap (λ s. s ++ joined d (first + 1) n) here ∙ ap (λ r. e first ++ r) rest

pub table_at_agrees : (copy : TableCopy) (sectors : ℕ) (d e : Contents) →
    ((s : ℕ) → IsOfCopy copy sectors s → d s ≡ e s) → table_at copy sectors d ≡ table_at copy sectors e
unfolding entries_bytes
table_at_agrees copy sectors d e same =
    let header = same (header_sector copy sectors) (inl refl) in
    let start = entries_sector copy sectors in
    let entries = joined_agrees d e start 32 (λ k below. same (start + k) (inr (omega arith, omega arith))) in
    ap (λ (h : List ℕ). table_of copy sectors h (joined d start 32)) header
    ∙ ap (λ (b : List ℕ). table_of copy sectors (e (header_sector copy sectors)) b) entries

-- a disk without room for both copies has no table
pub no_room : (copy : TableCopy) (sectors : ℕ) (header entries : List ℕ) → sectors < 67 → table_of copy sectors header entries ≡ None
no_room copy sectors header entries small =
    let one : is_valid copy sectors header entries ≡ false = and_left _ _ (and_left _ _ (and_left _ _ (lt-leb 67 sectors small))) in
    rw one
