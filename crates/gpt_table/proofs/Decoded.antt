-- When a copy gives a table.
use Rattle.std.proofs.Common.{◌≡◌, ℕ, ◌≤◌, true, false, List, Some, None, sym, ap, ◌∙◌}
use Rattle.std.specs.List.{list_all}
use Rattle.std.proofs.lemmas.Bool.{and_from, and_left, and_right, le-leb, eq-eqb}
use Rattle.shr_base.specs.Blocks.{bytes_at, number_at}
use Rattle.shr_base.specs.Crc.{crc32_of}
use Rattle.shr_base.specs.Ids.{guid_order}
use Rattle.arrayvec.specs.ArrayVec.{ArrayVec}
use Rattle.shr_base.specs.declared.ids.Id.{Id}
use Rattle.gpt_table.specs.declared.Entry.{Entry}
use Rattle.gpt_table.specs.declared.Table.{Table}
use Rattle.gpt_table.specs.declared.TableCopy.{TableCopy}
use Rattle.gpt_table.specs.Format.{is_valid, is_header, is_inside, entries_of, table_of}

-- what a valid copy says
abbrev pub said : ℕ → List ℕ → List ℕ → Table
said sectors header entries = record {
  disk_id = record { 0 = guid_order (bytes_at 56 16 header) };
  sectors = sectors;
  entries = record { items = entries_of entries };
}

pub valid_from : (copy : TableCopy) (sectors : ℕ) (header entries : List ℕ) → 67 ≤ sectors → is_header copy sectors header ≡ true →
    number_at 88 4 header ≡ crc32_of entries → list_all (λ e. is_inside sectors e.slice) (entries_of entries) ≡ true →
    table_of copy sectors header entries ≡ Some (said sectors header entries)
valid_from copy sectors header entries room whole sum inside =
    let all : is_valid copy sectors header entries ≡ true =
    and_from _ _ (and_from _ _ (and_from _ _ (le-leb 67 sectors room) whole) (eq-eqb (number_at 88 4 header) (crc32_of entries) sum)) inside in
    rw all

pub invalid_header : (copy : TableCopy) (sectors : ℕ) (header entries : List ℕ) → is_header copy sectors header ≡ false →
    table_of copy sectors header entries ≡ None
invalid_header copy sectors header entries e =
    let one : is_valid copy sectors header entries ≡ false =
    and_left _ _ (and_left _ _ (and_right _ _ e)) in
    rw one

pub invalid_entries : (copy : TableCopy) (sectors : ℕ) (header entries : List ℕ) → list_all (λ e. is_inside sectors e.slice) (entries_of entries) ≡ false →
    table_of copy sectors header entries ≡ None
invalid_entries copy sectors header entries e =
    let one : is_valid copy sectors header entries ≡ false = and_right _ _ e in
    rw one

-- the same for a table that is said part by part
pub decodes_to : (copy : TableCopy) (sectors : ℕ) (header entries : List ℕ) (id : Id) (found : ArrayVec Entry) → 67 ≤ sectors →
    is_header copy sectors header ≡ true → number_at 88 4 header ≡ crc32_of entries →
    list_all (λ e. is_inside sectors e.slice) (entries_of entries) ≡ true →
    id.0 ≡ guid_order (bytes_at 56 16 header) → found.items ≡ entries_of entries →
    Some (record { disk_id = id; sectors = sectors; entries = found }) ≡ table_of copy sectors header entries
decodes_to copy sectors header entries id found room whole sum inside same_id same_entries =
    ap (λ (bytes : List ℕ). let t : Table = record { disk_id = record { 0 = bytes }; sectors = sectors; entries = found } in Some t) same_id
    ∙ ap (λ (es : List Entry). let t : Table = record { disk_id = record { 0 = guid_order (bytes_at 56 16 header) }; sectors = sectors; entries = record { items = es } } in Some t) same_entries
    ∙ sym (valid_from copy sectors header entries room whole sum inside)
