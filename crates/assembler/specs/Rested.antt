-- Disks of a pool at rest, of which arrays are to be made.
use Rattle.std.specs.Prelude.{◌≡◌}
use Rattle.rack.specs.Seen.{RackView}
use Rattle.pool_image.specs.Alike.{IsSamePool}
use Rattle.pool_image.specs.Drives.{Found}
use Rattle.pool_rest.specs.Resting.{IsIdle}
use Rattle.pool_scan.specs.Scanning.{now_in}
use Rattle.pool_model.specs.Left.{NoStraySuperblock}
use Rattle.pool_model.specs.Openings.{HaveGoodTables}
use Rattle.pool_model.specs.Stopped.{HaveTables}
use Rattle.assembler.specs.Sound.{HoldSound}

-- Disks hold the sound pool e at rest, which is the pool f but for gates of its log: nothing is pending, all arrays are ready for the volume, each drive has its table,
-- which has the members' slices where the pool has them, and no superblock stands where a drive that is no member of an array would have its slice.
pub record HoldRested (y : RackView) (f e : Found) : Type 0 where
  pub same : IsSamePool f e
  pub sound : HoldSound y e
  pub idle : IsIdle y
  pub joined : e.state.joined ≡ e.state.made
  pub good : HaveGoodTables e
  pub tables : HaveTables e
  pub alone : NoStraySuperblock e (now_in y)
