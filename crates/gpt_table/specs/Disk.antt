-- The table of a disk: that of its first valid copy.
use Rattle.std.specs.Prelude.{◌≡◌, ℕ, ◌+◌, ◌<◌, ◌≤◌, ◌⊎◌, List, flat_map, Option, Some, None, option_map, false}
use Rattle.std.specs.List.{range_with_len}
use Rattle.rack.specs.Seen.{RackView}
use Rattle.gpt_table.specs.declared.Table.{Table}
use Rattle.gpt_table.specs.declared.Seen.{Seen as SeenTable}
use Rattle.gpt_table.specs.declared.TableCopy.{TableCopy}
use Rattle.gpt_table.specs.declared.TableCopy.TheVariants.{Primary, Backup}
use Rattle.gpt_table.specs.Format.{header_sector, entries_sector, table_of, IsWritten}

-- what each sector of a disk holds
abbrev pub Contents : Type 0
Contents = ℕ → List ℕ

-- what the sectors of a rack's disk hold now
abbrev pub now_on : RackView → ℕ → Contents
now_on rack disk = λ sector. (rack.held disk sector).current

-- some sectors in a row
abbrev pub IsAmong : ℕ → ℕ → ℕ → Type 0
IsAmong first count sector = (first ≤ sector) × (sector < first + count)

-- the sectors of a copy
abbrev pub IsOfCopy : TableCopy → ℕ → ℕ → Type 0
IsOfCopy copy sectors sector =
    (sector ≡ header_sector copy sectors) ⊎ IsAmong (entries_sector copy sectors) 32 sector

-- the bytes of sectors in a row
abbrev pub joined : Contents → ℕ → ℕ → List ℕ
joined disk first count = flat_map disk (range_with_len first count)

-- the bytes of the 32 sectors of a copy's entries
unfoldable pub entries_bytes : Contents → ℕ → List ℕ
entries_bytes disk first = joined disk first 32

-- the table of one copy, if it is valid
abbrev pub table_at : TableCopy → ℕ → Contents → Option Table
table_at copy sectors disk =
    table_of copy sectors (disk (header_sector copy sectors)) (entries_bytes disk (entries_sector copy sectors))

-- a copy as it is written of a table
abbrev pub HoldsCopy : TableCopy → Table → Contents → Type 0
HoldsCopy copy table disk =
    IsWritten copy table (disk (header_sector copy table.sectors)) (entries_bytes disk (entries_sector copy table.sectors))

-- the primary, or else the backup
abbrev pub first_of : Option Table → Option Table → Option SeenTable
first_of (Some table) backup = Some (record { table = table; copy = Primary })
first_of None backup = option_map (λ table. record { table = table; copy = Backup }) backup

-- the table of the first valid copy
abbrev pub first_table : ℕ → Contents → Option SeenTable
first_table sectors disk = first_of (table_at Primary sectors disk) (table_at Backup sectors disk)

-- two copies are valid, and say the same table
abbrev pub SaySame : Option Table → Option Table → Type 0
SaySame primary backup = (table : Table) × (primary ≡ Some table) × (backup ≡ Some table)

-- both copies of a disk do
abbrev pub CopiesAgree : ℕ → Contents → Type 0
CopiesAgree sectors disk = SaySame (table_at Primary sectors disk) (table_at Backup sectors disk)

-- contents that agree with a disk's in each sector that isn't spent, as those before reads do
abbrev pub AgreesUnspent : RackView → ℕ → Contents → Type 0
AgreesUnspent rack disk contents =
    (sector : ℕ) → sector < rack.sectors disk → rack.spent disk sector ≡ false → contents sector ≡ now_on rack disk sector
