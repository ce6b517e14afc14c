-- One copy of a GUID partition table (UEFI, chapter 5): what its header and entries say, and when they are valid.
use Rattle.std.specs.Prelude.{◌≡◌, ℕ, ◌+◌, ◌-◌, ◌*◌, ◌<◌, ◌≤◌, ◌==◌, ◌&&◌, nat_le, nat_lt, if◌then◌else◌, Bool, List, [], ◌∷◌, take, replicate, filter_map, find, Option, Some, None, codes, bytes_eq, false, true, All, ⊤, min}
use Rattle.std.specs.List.{range_with_len, list_all}
use Rattle.shr_base.specs.Blocks.{bytes_at, number_at, put_at, put_all, Write}
use Rattle.byteorder.specs.Endian.{little_bytes}
use Rattle.shr_base.specs.Crc.{crc32_of}
use Rattle.shr_base.specs.Ids.{guid_order}
use Rattle.gpt_table.specs.declared.Slice.{Slice}
use Rattle.gpt_table.specs.declared.Entry.{Entry}
use Rattle.gpt_table.specs.declared.Table.{Table}
use Rattle.gpt_table.specs.declared.TableCopy.{TableCopy}
use Rattle.gpt_table.specs.declared.TableCopy.TheVariants.{Primary, Backup}

-- the sector of a copy's header, on a disk of so many sectors
abbrev pub header_sector : TableCopy → ℕ → ℕ
header_sector Primary sectors = 1
header_sector Backup sectors = sectors - 1

-- the first of the 32 sectors of its entries
abbrev pub entries_sector : TableCopy → ℕ → ℕ
entries_sector Primary sectors = 2
entries_sector Backup sectors = sectors - 33

-- one of the 128 entries of 128 bytes, from 0
abbrev pub slot_of : ℕ → List ℕ → List ℕ
slot_of k entries = bytes_at (128 * k) 128 entries

-- an entry whose type is all zeros isn't in use
abbrev pub is_unused : List ℕ → Bool
is_unused slot = list_all (λ byte. byte == 0) (bytes_at 0 16 slot)

-- the type, the id and the extent of an entry; attributes and name are read over
unfoldable pub slice_of : List ℕ → Slice
slice_of slot = record {
  kind = record { 0 = guid_order (bytes_at 0 16 slot) };
  id = record { 0 = guid_order (bytes_at 16 16 slot) };
  first = number_at 32 8 slot;
  last = number_at 40 8 slot;
}

-- an entry, numbered from 1
abbrev pub entry_of : List ℕ → ℕ → Option Entry
entry_of entries k =
    if is_unused (slot_of k entries) then None else Some (record { number = k + 1; slice = slice_of (slot_of k entries) })

-- the entries in use, ascending
unfoldable pub entries_of : List ℕ → List Entry
entries_of entries = filter_map (entry_of entries) (range_with_len 0 128)

-- a slice that ends where it begins or later, inside the disk
abbrev pub is_inside : ℕ → Slice → Bool
is_inside sectors slice = nat_le slice.first slice.last && nat_lt slice.last sectors

-- the sum of a header over the bytes that it says it has, its own field as zeros
abbrev pub header_sum : List ℕ → ℕ
header_sum header = crc32_of (take (number_at 12 4 header) (put_at 16 4 (replicate 4 0) header))

-- the fields of a header that say that it is one, whole, and that of this copy
abbrev pub is_header : TableCopy → ℕ → List ℕ → Bool
is_header copy sectors header =
    bytes_eq (bytes_at 0 8 header) (codes "EFI PART")
    && nat_le 92 (number_at 12 4 header)
    && nat_le (number_at 12 4 header) 512
    && (number_at 16 4 header == header_sum header)
    && (number_at 24 8 header == header_sector copy sectors)
    && (number_at 72 8 header == entries_sector copy sectors)
    && (number_at 80 4 header == 128)
    && (number_at 84 4 header == 128)

-- a valid copy, on a disk that has room for both
abbrev pub is_valid : TableCopy → ℕ → List ℕ → List ℕ → Bool
is_valid copy sectors header entries =
    nat_le 67 sectors
    && is_header copy sectors header
    && (number_at 88 4 header == crc32_of entries)
    && list_all (λ entry. is_inside sectors entry.slice) (entries_of entries)

-- the table of a copy, if it is valid
abbrev pub table_of : TableCopy → ℕ → List ℕ → List ℕ → Option Table
table_of copy sectors header entries =
    if is_valid copy sectors header entries then Some (record {
      disk_id = record { 0 = guid_order (bytes_at 56 16 header) };
      sectors = sectors;
      entries = record { items = entries_of entries };
    }) else None

-- each entry's number is above that of the one before
abbrev pub Ascends : ℕ → List Entry → Type 0
Ascends number [] = ⊤
Ascends number (entry ∷ entries) = (number < entry.number) × Ascends entry.number entries

-- a table that can be written: its entries are numbered from 1 to 128, ascending, each of a type that isn't all zeros and inside the disk
pub record IsWritable (table : Table) : Type 0 where
  pub room : 67 ≤ table.sectors
  pub ascending : Ascends 0 table.entries.items
  pub numbered : All (λ entry. entry.number ≤ 128) table.entries.items
  pub used : All (λ entry. list_all (λ byte. byte == 0) entry.slice.kind.0 ≡ false) table.entries.items
  pub inside : All (λ entry. is_inside table.sectors entry.slice ≡ true) table.entries.items

-- a table that can be written to a disk of so many sectors
pub record IsWritableOn (sectors : ℕ) (table : Table) : Type 0 where
  pub size : table.sectors ≡ sectors
  pub writable : IsWritable table

-- the other copy
abbrev pub other_copy : TableCopy → TableCopy
other_copy Primary = Backup
other_copy Backup = Primary

-- the fields of a header that is written (UEFI, 5.3.2), all but its own sum, which stands at 16
abbrev pub header_fields : TableCopy → ℕ → List ℕ → ℕ → List Write
header_fields copy sectors guid sum =
    record { offset = 0; width = 8; bytes = codes "EFI PART" }
    ∷ record { offset = 8; width = 4; bytes = little_bytes 4 0x10000 }
    ∷ record { offset = 12; width = 4; bytes = little_bytes 4 92 }
    ∷ record { offset = 24; width = 8; bytes = little_bytes 8 (header_sector copy sectors) }
    ∷ record { offset = 32; width = 8; bytes = little_bytes 8 (header_sector (other_copy copy) sectors) }
    ∷ record { offset = 40; width = 8; bytes = little_bytes 8 34 }
    ∷ record { offset = 48; width = 8; bytes = little_bytes 8 (sectors - 34) }
    ∷ record { offset = 56; width = 16; bytes = guid }
    ∷ record { offset = 72; width = 8; bytes = little_bytes 8 (entries_sector copy sectors) }
    ∷ record { offset = 80; width = 4; bytes = little_bytes 4 128 }
    ∷ record { offset = 84; width = 4; bytes = little_bytes 4 128 }
    ∷ record { offset = 88; width = 4; bytes = little_bytes 4 sum }
    ∷ []

-- the fields of an entry that is written; the rest of its 128 bytes are zeros
abbrev pub slot_fields : List ℕ → List ℕ → ℕ → ℕ → List Write
slot_fields kind id first last =
    record { offset = 0; width = 16; bytes = kind }
    ∷ record { offset = 16; width = 16; bytes = id }
    ∷ record { offset = 32; width = 8; bytes = little_bytes 8 first }
    ∷ record { offset = 40; width = 8; bytes = little_bytes 8 last }
    ∷ []

-- the bytes of an entry that is written
abbrev pub slot_bytes : Slice → List ℕ
slot_bytes slice =
    put_all (slot_fields (guid_order slice.kind.0) (guid_order slice.id.0) slice.first slice.last) (replicate 128 0)

-- the entry of a number
abbrev pub numbered : ℕ → Entry → Bool
numbered number entry = entry.number == number

-- what is written in the place of a number, by the entry that has it
abbrev pub written_slot : Option Entry → List ℕ
written_slot None = replicate 128 0
written_slot (Some entry) = slot_bytes entry.slice

-- the header that is written with these entries
unfoldable pub written_header : TableCopy → Table → List ℕ → List ℕ
written_header copy table entries =
    let fields = put_all (header_fields copy table.sectors (guid_order table.disk_id.0) (crc32_of entries)) (replicate 512 0) in
    put_at 16 4 (little_bytes 4 (crc32_of (take 92 fields))) fields

-- the entries that are written
abbrev pub AreWritten : List Entry → List ℕ → Type 0
AreWritten items entries = (k : ℕ) → k < 128 → slot_of k entries ≡ written_slot (find (numbered (k + 1)) items)

-- a copy as it is written: it says the table, and what no reader looks at is what the standard has there
pub record IsWritten (copy : TableCopy) (table : Table) (header entries : List ℕ) : Type 0 where
  pub says : table_of copy table.sectors header entries ≡ Some table
  pub header_is : header ≡ written_header copy table entries
  pub slots : AreWritten table.entries.items entries

-- a slice by its GUIDs as they are stored
abbrev pub stored_slice : List ℕ → List ℕ → ℕ → ℕ → Slice
stored_slice kind id first last =
    record { kind = record { 0 = guid_order kind }; id = record { 0 = guid_order id }; first = first; last = last }

-- the protective MBR (UEFI, 5.2.3): one partition of type 0xee from sector 1, over the whole disk or all that 32 bits say
abbrev pub mbr_of : ℕ → List ℕ
mbr_of sectors =
    put_all
    (record { offset = 446; width = 8; bytes = 0 ∷ 0 ∷ 2 ∷ 0 ∷ 0xee ∷ 0xff ∷ 0xff ∷ 0xff ∷ [] }
    ∷ record { offset = 454; width = 4; bytes = little_bytes 4 1 }
    ∷ record { offset = 458; width = 4; bytes = little_bytes 4 (min (sectors - 1) 0xffffffff) }
    ∷ record { offset = 510; width = 2; bytes = 0x55 ∷ 0xaa ∷ [] }
    ∷ [])
    (replicate 512 0)
