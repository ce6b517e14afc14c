-- The sectors that are written of one copy.
use Rattle.std.specs.Prelude.{◌≡◌, ℕ, ◌+◌, ◌-◌, ◌*◌, ◌==◌, ◌&&◌, nat_le, nat_lt, if◌then◌else◌, List, Some, None, Result, OnOk, IfErr, ◌⊎◌, false}
use Rattle.std.proofs.Common.{inl, inr}
use Rattle.rack.specs.declared.Gone.{Gone}
use Rattle.rack.specs.Values.{IsSector, IsSingle}
use Rattle.rack.specs.Seen.{RackView, Rose, IsLive}
use Rattle.shr_base.specs.Blocks.{bytes_at}
use Rattle.gpt_table.specs.Calls.{Plan, Follows}
use Rattle.gpt_table.specs.Format.{mbr_of}
use Rattle.gpt_table.specs.Disk.{Contents, IsOfCopy, HoldsCopy, now_on}
use Rattle.gpt_table.specs.declared.Table.{Table}
use Rattle.gpt_table.specs.declared.TableCopy.{TableCopy}
use Rattle.gpt_table.specs.declared.TableCopy.TheVariants.{Primary, Backup}

-- a value in one sector
abbrev pub sector_plan : ℕ → List ℕ → Plan
sector_plan own value sector = if sector == own then Some value else None

-- the entries in 32 sectors
abbrev pub entries_plan : ℕ → List ℕ → Plan
entries_plan first entries sector =
    if nat_le first sector && nat_lt sector (first + 32) then Some (bytes_at (512 * (sector - first)) 512 entries) else None

-- the header in its sector, and the entries in 32 sectors
abbrev pub copy_plan : ℕ → List ℕ → ℕ → List ℕ → Plan
copy_plan own header first entries sector = if sector == own then Some header else entries_plan first entries sector

-- planned values were written, or the disk's faults rose
pub record WritesPlan (a b : RackView) (disk : ℕ) (plan : Plan) {X : Type 0} (result : Result X Gone) : Type 0 where
  pub follows : Follows a b disk plan
  pub written : OnOk result ((s : ℕ) (v : List ℕ) → plan s ≡ Some v → IsLive a b disk s → (b.held disk s).current ≡ v)
  pub gone : IfErr result (λ e. (e.disk ≡ disk) × Rose (a.faults disk) (b.faults disk))

-- planned values were written and are durable, or the disk's faults rose
pub record WritesSectors (a b : RackView) (disk : ℕ) (plan : Plan) {X : Type 0} (result : Result X Gone) : Type 0 where
  pub follows : Follows a b disk plan
  pub written : OnOk result ((s : ℕ) (v : List ℕ) → plan s ≡ Some v → IsLive a b disk s → (b.held disk s).current ≡ v)
  pub durable : OnOk result ((s : ℕ) → IsLive a b disk s → IsSingle (b.held disk s))
  pub gone : IfErr result (λ e. (e.disk ≡ disk) × Rose (a.faults disk) (b.faults disk))

-- the values are those of a copy of this table: wherever they stand, the copy is the one that is written of it
pub record WritesCopy (a b : RackView) (disk : ℕ) (copy : TableCopy) (table : Table) {X : Type 0} (result : Result X Gone) : Type 0 where
  pub plan : Plan
  pub within : (s : ℕ) (v : List ℕ) → plan s ≡ Some v → IsOfCopy copy table.sectors s
  pub sized : (s : ℕ) (v : List ℕ) → plan s ≡ Some v → IsSector v
  pub says :
      (contents : Contents) → ((s : ℕ) (v : List ℕ) → plan s ≡ Some v → contents s ≡ v)
      → HoldsCopy copy table contents
  pub writes : WritesSectors a b disk plan result

-- the sectors of a table: the protective MBR and both copies
abbrev pub IsOfTable : ℕ → ℕ → Type 0
IsOfTable sectors sector = (sector ≡ 0) ⊎ (IsOfCopy Primary sectors sector ⊎ IsOfCopy Backup sectors sector)

-- what a sector of a copy holds on a disk of whole sectors, where the copy is as it is written of a table
pub record IsInCopy (copy : TableCopy) (table : Table) (sector : ℕ) (value : List ℕ) : Type 0 where
  pub within : IsOfCopy copy table.sectors sector
  pub disk : Contents
  pub sized : (s : ℕ) → IsSector (disk s)
  pub holds : HoldsCopy copy table disk
  pub here : disk sector ≡ value

-- what a sector holds that is written of a table: the protective MBR, or that of a copy
abbrev pub IsInTable : Table → ℕ → List ℕ → Type 0
IsInTable table sector value =
    ((sector ≡ 0) × (value ≡ mbr_of table.sectors)) ⊎ (IsInCopy Primary table sector value ⊎ IsInCopy Backup table sector value)

-- it is one of the table's sectors
pub in_table : (table : Table) (sector : ℕ) (value : List ℕ) → IsInTable table sector value → IsOfTable table.sectors sector
in_table table sector value is = elim is [ inl first ↦ inl first.0 | inr (inl primary) ↦ inr (inl primary.within) | inr (inr backup) ↦ inr (inr backup.within) ]

-- a whole table was written, or the disk's faults rose; nothing else was
pub record WritesTable (a b : RackView) (disk : ℕ) (table : Table) {X : Type 0} (result : Result X Gone) : Type 0 where
  pub plan : Plan
  pub within : (s : ℕ) (v : List ℕ) → plan s ≡ Some v → IsInTable table s v
  pub follows : Follows a b disk plan
  pub both :
      OnOk result (a.told disk → ((s : ℕ) → IsOfTable table.sectors s → b.spent disk s ≡ false) → (copy : TableCopy)
      → HoldsCopy copy table (now_on b disk))
  pub mbr : OnOk result (IsLive a b disk 0 → now_on b disk 0 ≡ mbr_of table.sectors)
  pub durable : OnOk result ((s : ℕ) → IsLive a b disk s → IsSingle (b.held disk s))
  pub gone : IfErr result (λ e. (e.disk ≡ disk) × Rose (a.faults disk) (b.faults disk))
