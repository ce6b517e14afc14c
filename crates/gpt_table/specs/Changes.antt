-- Copies that are replaced one after the other: what a stop leaves at any moment, and what stands at the end.
use Rattle.std.specs.Prelude.{◌≡◌, ◌≢◌, ◌⊎◌, ℕ, nat_lt, Bool, List, ◌∷◌, ◌++◌, filter, replicate, Option, Some, None, option_map, Result, Ok, Err, OnOk, OnErr, IfErr}
use Rattle.rack.specs.declared.Gone.{Gone}
use Rattle.rack.specs.Values.{MayLeave, Keeps, IsSingle}
use Rattle.rack.specs.Seen.{Image, RackView, Rose, IsLive, SameRack}
use Rattle.rack.specs.Moments.{Leaves}
use Rattle.gpt_table.specs.declared.Entry.{Entry}
use Rattle.gpt_table.specs.declared.Table.{Table}
use Rattle.gpt_table.specs.declared.TableCopy.{TableCopy}
use Rattle.gpt_table.specs.declared.TableCopy.TheVariants.{Primary, Backup}
use Rattle.gpt_table.specs.declared.TableFault.{TableFault}
use Rattle.gpt_table.specs.declared.TableFault.TheVariants.{NoTable}
use Rattle.rack.specs.Sequences.{OnlyReads, WritesOnly}
use Rattle.gpt_table.specs.Disk.{Contents, IsOfCopy, HoldsCopy, now_on, table_at, first_table}
use Rattle.gpt_table.specs.Format.{header_sector}
use Rattle.gpt_table.specs.Plans.{IsInCopy}

-- whether an entry has a lower number, or a higher one
abbrev pub is_below : ℕ → Entry → Bool
is_below number entry = nat_lt entry.number number

abbrev pub is_above : ℕ → Entry → Bool
is_above number entry = nat_lt number entry.number

-- the entries with this one in the place of its number
abbrev pub with_entry : Entry → List Entry → List Entry
with_entry entry entries = filter (is_below entry.number) entries ++ entry ∷ filter (is_above entry.number) entries

-- the table with this entry
abbrev pub changed : Entry → Table → Table
changed entry table = record {
  disk_id = table.disk_id;
  sectors = table.sectors;
  entries = record { items = with_entry entry table.entries.items };
}

-- the table of a disk: that of its first valid copy
abbrev pub the_table : ℕ → Contents → Option Table
the_table sectors disk = option_map (λ found. found.table) (first_table sectors disk)

-- all sectors of a copy are live
abbrev pub AreLive : RackView → RackView → ℕ → TableCopy → ℕ → Type 0
AreLive a b disk copy sectors = (s : ℕ) → IsOfCopy copy sectors s → IsLive a b disk s

-- those of both copies are
abbrev pub BothLive : RackView → RackView → ℕ → ℕ → Type 0
BothLive a b disk sectors = (copy : TableCopy) → AreLive a b disk copy sectors

-- contents that take one of the held values in each sector of a copy
abbrev pub IsPickOf : RackView → ℕ → TableCopy → ℕ → Contents → Type 0
IsPickOf x disk copy sectors contents = (s : ℕ) → IsOfCopy copy sectors s → MayLeave (x.held disk s) (contents s)

-- each sector of both copies has one held value
abbrev pub AreSingle : RackView → ℕ → ℕ → Type 0
AreSingle x disk sectors = (copy : TableCopy) (s : ℕ) → IsOfCopy copy sectors s → IsSingle (x.held disk s)

-- a sector of another disk, or outside some sectors of this one
abbrev pub IsElsewhere : ℕ → (ℕ → Type 0) → ℕ → ℕ → Type 0
IsElsewhere disk of d s = (d ≢ disk) ⊎ (of s → ⊥)

-- what a stop leaves: one of the values before in each sector elsewhere, and on this disk what has P where its sectors are live
abbrev pub IsLeftover : RackView → RackView → ℕ → (ℕ → Type 0) → (Contents → Type 0) → Image → Type 0
IsLeftover a b disk of P image =
    ((d s : ℕ) → IsLive a b d s → IsElsewhere disk of d s → MayLeave (a.held d s) (image d s))
    × (((s : ℕ) → of s → IsLive a b disk s) → P (image disk))

-- calls that wrote to some sectors of a disk alone: what a stop leaves has P, at each moment and at the end
pub record Changes (a b : RackView) (disk : ℕ) (of : ℕ → Type 0) (P : Contents → Type 0) : Type 0 where
  pub stays : SameRack a b
  pub others : (d s : ℕ) → IsLive a b d s → IsElsewhere disk of d s → Keeps (a.held d s) (b.held d s)
  pub stops : a.traced → Leaves a b (IsLeftover a b disk of P)
  pub held :
      ((s : ℕ) → of s → IsLive a b disk s) → (contents : Contents)
      → ((s : ℕ) → of s → MayLeave (b.held disk s) (contents s))
      → P contents

-- a copy as it was, one that isn't valid, or one of this table
abbrev pub Passes : RackView → ℕ → TableCopy → Table → Contents → Type 0
Passes a disk copy table contents =
    IsPickOf a disk copy table.sectors contents
    ⊎ ((table_at copy table.sectors contents ≡ None) ⊎ (table_at copy table.sectors contents ≡ Some table))

-- what a sector may come to hold while a copy is replaced by one of a table: zeros in the header's place, or what the copy has there
abbrev pub IsInReplaced : TableCopy → Table → ℕ → List ℕ → Type 0
IsInReplaced copy table sector value =
    ((sector ≡ header_sector copy table.sectors) × (value ≡ replicate 512 0)) ⊎ IsInCopy copy table sector value

-- a copy was replaced by one of this table, which is durable, or the disk's faults rose
pub record ReplacesCopy (a b : RackView) (disk : ℕ) (copy : TableCopy) (table : Table) {X E : Type 0} (result : Result X E)
    : Type 0 where
  pub changes : Changes a b disk (IsOfCopy copy table.sectors) (Passes a disk copy table)
  pub only : WritesOnly a b (λ d s v. (d ≡ disk) × IsInReplaced copy table s v)
  pub says :
      OnOk
      result
      (AreLive a b disk copy table.sectors → (contents : Contents) → IsPickOf b disk copy table.sectors contents
      → HoldsCopy copy table contents)
  pub gone : OnErr result (Rose (a.faults disk) (b.faults disk))

-- a sector of one of the copies
abbrev pub IsOfCopies : ℕ → ℕ → Type 0
IsOfCopies sectors s = IsOfCopy Primary sectors s ⊎ IsOfCopy Backup sectors s

-- whatever a stop leaves now, the primary says this table
abbrev pub PrimarySays : RackView → ℕ → ℕ → Table → Type 0
PrimarySays x disk sectors table =
    (contents : Contents) → IsPickOf x disk Primary sectors contents → table_at Primary sectors contents ≡ Some table

-- the old table, or the new one
abbrev pub IsOneOf : Table → Table → Option Table → Type 0
IsOneOf old new table = (table ≡ Some old) ⊎ (table ≡ Some new)

-- both copies were changed from the old table to the new one, which is durable, or the disk's faults rose;
-- at each moment and at the end the table is one of the two, where the primary said the old one
pub record ChangesTable (a b : RackView) (disk : ℕ) (old new : Table) {X : Type 0} (result : Result X Gone) : Type 0 where
  pub changes :
      Changes a b disk (IsOfCopies new.sectors)
      (λ contents. PrimarySays a disk new.sectors old → IsOneOf old new (the_table new.sectors contents))
  pub both :
      OnOk
      result
      (BothLive a b disk new.sectors → (contents : Contents) → ((copy : TableCopy) → IsPickOf b disk copy new.sectors contents)
      → (copy : TableCopy) → HoldsCopy copy new contents)
  pub gone : IfErr result (λ e. (e.disk ≡ disk) × Rose (a.faults disk) (b.faults disk))

-- nothing was written, or one copy was replaced, so that both say the table of the first valid one
abbrev pub Settles : RackView → RackView → ℕ → Option Table → Option Table → Result (Unit {0}) TableFault → Type 0
Settles a b disk (Some table) backup result =
    (OnlyReads a b × (backup ≡ Some table) × (result ≡ Ok tt))
    ⊎ (ReplacesCopy a b disk Backup table result × (result ≢ Err NoTable))
Settles a b disk None (Some table) result = ReplacesCopy a b disk Primary table result × (result ≢ Err NoTable)
Settles a b disk None None result = OnlyReads a b × (result ≡ Err NoTable)

-- both copies say what the first valid one said
abbrev pub BothSay : RackView → ℕ → ℕ → Contents → Type 0
BothSay a disk sectors contents =
    (table : Table) × (the_table sectors (now_on a disk) ≡ Some table)
    × ((copy : TableCopy) → table_at copy sectors contents ≡ Some table)

-- a copy as it was, or as it is written of a table
abbrev pub IsKeptOrWritten : RackView → ℕ → ℕ → TableCopy → Contents → Type 0
IsKeptOrWritten a disk sectors copy contents =
    IsPickOf a disk copy sectors contents ⊎ ((table : Table) × (table.sectors ≡ sectors) × HoldsCopy copy table contents)

-- what a sector may come to hold while the copies of a disk are settled: what one of them holds while it is replaced by the table that the disk had
pub record IsInSettled (a : RackView) (disk sectors sector : ℕ) (value : List ℕ) : Type 0 where
  pub copy : TableCopy
  pub table : Table
  pub size : table.sectors ≡ sectors
  pub first : a.told disk → the_table sectors (now_on a disk) ≡ Some table
  pub within : IsInReplaced copy table sector value

-- the table stays the same at each moment and at the end, where each sector of the copies had one held value; at Ok both
-- copies say it
pub record SettlesTable (a b : RackView) (disk sectors : ℕ) {X E : Type 0} (result : Result X E) : Type 0 where
  pub changes :
      Changes a b disk (IsOfCopies sectors)
      (λ contents. AreSingle a disk sectors → the_table sectors contents ≡ the_table sectors (now_on a disk))
  pub only : WritesOnly a b (λ d s v. (d ≡ disk) × IsInSettled a disk sectors s v)
  pub both : OnOk result (BothLive a b disk sectors → BothSay a disk sectors (now_on b disk))
  pub written :
      OnOk
      result
      (BothLive a b disk sectors → (copy : TableCopy) (contents : Contents) → IsPickOf b disk copy sectors contents
      → IsKeptOrWritten a disk sectors copy contents)
  pub durable :
      OnOk
      result
      (BothLive a b disk sectors → AreSingle a disk sectors → (contents : Contents)
      → ((copy : TableCopy) → IsPickOf b disk copy sectors contents)
      → BothSay a disk sectors contents)
