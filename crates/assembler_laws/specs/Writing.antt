-- What an opening writes on the disks of a rack.
use Rattle.std.specs.Prelude.{◌⊎◌, ℕ, List}
use Rattle.rack.specs.Seen.{RackView}
use Rattle.rack.specs.Sequences.{WritesOnly}
use Rattle.slice_rack.specs.Runs.{IsSliced}
use Rattle.slice_rack.specs.Slices.{Slices, seat_of}
use Rattle.pool_state.specs.declared.contents.State.{State}
use Rattle.pool_scan.specs.declared.Known.{Known}
use Rattle.pool_scan.specs.Choosing.{seat_by}
use Rattle.pool_scan.specs.Scanning.{AllTold}
use Rattle.pool_rest.specs.Resting.{IsOfDrive, WritesDrives}
use Rattle.pool_rest.specs.Standing.{IsLasting, IsNewest, IsOnePool, since}
use Rattle.pool_check.specs.Settling.{IsTableSector}

-- a sector of a slice, or of a partition table of a disk that a place has, with what a copy of that table has there while it is settled from x to y
abbrev pub IsSlicedOrTable : RackView → RackView → Slices → ℕ → ℕ → List ℕ → Type 0
IsSlicedOrTable x y t d s v = IsSliced t d s v ⊎ IsTableSector x y (seat_of t) 16 d s v

-- a sector of a drive: in its log slice, in the arrays' part of its disk, or in its partition table, with what a copy of that has there while it is settled from x to y
abbrev pub IsDriveOrTable : RackView → RackView → List Known → State → ℕ → ℕ → List ℕ → Type 0
IsDriveOrTable x y known s d t v = IsOfDrive x known s d t v ⊎ IsTableSector x y (seat_by s known) 16 d t v

-- The pending record was written on drives of the pool, and the rack was `mid` then. By what was read of its disks, only drives were written
-- from there on: in their log slices, in the arrays' part behind these and before the backup of the partition table, and in both copies of
-- that table, where just values of the table that the disk had came.
pub record WritesPool {R : Type 0} (seen : R → RackView) (runs : R → R → Type 0) (rack back : R) : Type 0 where
  pub mid : R
  pub kept : runs rack mid × runs mid back
  pub early : WritesDrives (seen rack) (seen mid)
  pub known : List Known
  pub state : State
  pub newest : AllTold (seen rack) → IsLasting (seen rack) → IsNewest (since (seen rack) (seen mid)) (seen mid) known state
  pub one : IsOnePool known state
  pub late : WritesOnly (seen mid) (seen back) (IsDriveOrTable (seen mid) (seen back) known state)
