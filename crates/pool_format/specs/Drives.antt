-- What stands on the drives of a new pool.
use Rattle.std.specs.Prelude.{◌≡◌, ℕ, ◌+◌, ◌++◌, ◌<◌, true, false, List, length, replicate, slice_get, Some, Ok}
use Rattle.rack.specs.Values.{IsSector, IsSingle, MayLeave}
use Rattle.rack.specs.Seen.{RackView, IsLive}
use Rattle.gpt_table.specs.Disk.{Contents, HoldsCopy, now_on}
use Rattle.gpt_table.specs.Format.{mbr_of}
use Rattle.gpt_table.specs.Plans.{IsOfTable}
use Rattle.gpt_table.specs.declared.TableCopy.{TableCopy}
use Rattle.md_super.specs.declared.superblock.Super.{Super}
use Rattle.md_super.specs.Layout.{LeavesZeros, decoded as super_in}
use Rattle.pool_state.specs.Sector.{decoded as copy_in}
use Rattle.array_image.specs.Places.{data_sector, state_sector, super_sector}
use Rattle.array_image.specs.Record.{gate_sector}
use Rattle.log_laws.specs.Bytes.{first_gate}
use Rattle.pool_format.specs.declared.Birth.{Birth}
use Rattle.pool_format.specs.declared.planning.NewArray.{NewArray}
use Rattle.pool_format.specs.declared.planning.NewPool.{NewPool}
use Rattle.pool_format.specs.Data.{IsMemberData, LeavesData, array_sector}
use Rattle.new_array.specs.Supers.{role_of}
use Rattle.pool_format.specs.Parts.{new_state, new_super, new_table}
use Rattle.pool_format.specs.Plan.{has}

-- ---- sectors

-- where a drive has its gate: the second sector of its log slice
abbrev pub gate_at : ℕ
gate_at = state_sector + gate_sector

-- the sector of a superblock: it says this one, and all bytes that no field takes are zeros
pub record IsBlockOf (s : Super) (v : List ℕ) : Type 0 where
  pub sized : IsSector v
  pub says : super_in (v ++ replicate 512 0) ≡ Ok s
  pub elsewhere : LeavesZeros v

-- the sector of a place's copy of the state. A copy is well formed only where the bytes that no part takes are zeros.
pub record IsCopyOf (plan : NewPool) (birth : Birth) (place : ℕ) (v : List ℕ) : Type 0 where
  pub sized : IsSector v
  pub says : copy_in v ≡ Ok (record { state = new_state plan birth; own = place })

-- a state's sector that was cleared: zeros, which say no copy
abbrev pub no_state : List ℕ
no_state = replicate 512 0

-- the sector of a superblock of a place's member of the array of a number
pub record IsSuperOf (plan : NewPool) (place number sector : ℕ) : Type 0 where
  pub array : NewArray
  pub at : slice_get plan.arrays.items number ≡ Some array
  pub among : has array.members.items place ≡ true
  pub sector_is : sector ≡ array.first + super_sector

-- ---- drives

-- The contents of a place's drive of so many sectors have its table: the protective MBR and both copies.
pub record HoldsTable (plan : NewPool) (birth : Birth) (place sectors : ℕ) (contents : Contents) : Type 0 where
  pub mbr : contents 0 ≡ mbr_of sectors
  pub copies : (copy : TableCopy) → HoldsCopy copy (new_table plan birth place sectors) contents

-- The contents of a place's drive of so many sectors have all its parts but the copy of the state: its table, the closed gate, and of
-- each of its members the superblock and the data.
pub record HasParts (plan : NewPool) (birth : Birth) (place sectors : ℕ) (contents : Contents) : Type 0 where
  pub table : HoldsTable plan birth place sectors contents
  pub gate : contents gate_at ≡ first_gate
  pub supers :
      (n : ℕ) (a : NewArray) → slice_get plan.arrays.items n ≡ Some a → has a.members.items place ≡ true
      → IsBlockOf (new_super birth a n place) (contents (a.first + super_sector))
  pub member_data :
      (n : ℕ) (a : NewArray) → slice_get plan.arrays.items n ≡ Some a → has a.members.items place ≡ true → (s : ℕ) → s < a.size
      → IsMemberData (length a.members.items) (array_sector plan birth n) (role_of a.members.items place) s (contents (a.first + data_sector + s))

-- The contents of a place's drive of so many sectors, in a new pool: those parts, and its copy of the state.
pub record IsNewDrive (plan : NewPool) (birth : Birth) (place sectors : ℕ) (contents : Contents) : Type 0 where
  pub parts : HasParts plan birth place sectors contents
  pub state : IsCopyOf plan birth place (contents state_sector)

-- a disk that is told, and no sector of it is spent
pub record IsWhole (x : RackView) (d : ℕ) : Type 0 where
  pub disk : d < x.disks
  pub is_told : x.told d
  pub unspent : (s : ℕ) → s < x.sectors d → x.spent d s ≡ false

-- ---- what calls in a row leave on a drive, in its live sectors

-- its table
abbrev pub LeavesTable : NewPool → Birth → ℕ → RackView → RackView → Type 0
LeavesTable plan birth d a b = ((s : ℕ) → IsOfTable (a.sectors d) s → IsLive a b d s) → HoldsTable plan birth d (a.sectors d) (now_on b d)

-- its table, and the data of its members
pub record LeavesLaid (plan : NewPool) (birth : Birth) (d : ℕ) (a b : RackView) : Type 0 where
  pub table : LeavesTable plan birth d a b
  pub members : (n : ℕ) → LeavesData plan birth d n a b

-- the superblock of its member of an array
abbrev pub LeavesSuper : NewPool → Birth → ℕ → ℕ → RackView → RackView → Type 0
LeavesSuper plan birth d n a b =
    (e : NewArray) → slice_get plan.arrays.items n ≡ Some e → has e.members.items d ≡ true → IsLive a b d (e.first + super_sector)
    → IsBlockOf (new_super birth e n d) (now_on b d (e.first + super_sector))

-- the closed gate and the superblocks of its members
pub record LeavesClosed (plan : NewPool) (birth : Birth) (d : ℕ) (a b : RackView) : Type 0 where
  pub gate : IsLive a b d gate_at → now_on b d gate_at ≡ first_gate
  pub supers : (n : ℕ) → LeavesSuper plan birth d n a b

-- its copy of the state, and one value in each sector
pub record LeavesState (plan : NewPool) (birth : Birth) (d : ℕ) (a b : RackView) : Type 0 where
  pub state : IsLive a b d state_sector → IsCopyOf plan birth d (now_on b d state_sector)
  pub single : (s : ℕ) → IsLive a b d s → IsSingle (b.held d s)

-- zeros in place of its copy of the state, durably
abbrev pub LeavesCleared : ℕ → RackView → RackView → Type 0
LeavesCleared d a b = IsLive a b d state_sector → (v : List ℕ) → MayLeave (b.held d state_sector) v → v ≡ no_state

-- one value in each sector
abbrev pub LeavesSingle : ℕ → RackView → RackView → Type 0
LeavesSingle d a b = (s : ℕ) → IsLive a b d s → IsSingle (b.held d s)
