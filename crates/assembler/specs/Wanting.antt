-- What is left of sound disks where no memory could be had.
use Rattle.std.specs.Prelude.{◌≡◌, ◌⊎◌, true}
use Rattle.rack.specs.Seen.{RackView}
use Rattle.pool_image.specs.Alike.{MeansTheSame}
use Rattle.pool_image.specs.Disks.{disks_of}
use Rattle.pool_image.specs.Drives.{Found}
use Rattle.pool_scan.specs.Scanning.{now_in}
use Rattle.raid_laws.specs.Raid.{is_used_up}
use Rattle.raid_rack.specs.RaidRack.{raid_by}
use Rattle.assembler.specs.declared.refusal.Refusal.TheVariants.{Memory}
use Rattle.assembler.specs.Causes.{RefusesArrays, RefusesPool}
use Rattle.assembler.specs.Sound.{KeepsPool}

-- Arrays were made over the slices of a pool's drives, as they were read, and in the end their numbers are used up.
pub record HasUsedUp {R : Type 0} (seen : R → RackView) (runs : R → R → Type 0) (rack back : R) : Type 0 where
  pub pool : RefusesPool seen runs rack back Memory
  pub arrays : RefusesArrays seen runs rack pool.mid back pool.known pool.state Memory
  pub used_up : is_used_up (raid_by arrays.last.arrays) ≡ true

-- Disks that held a sound pool, and refused no call, mean what they meant, where memory was wanting before anything was called; or what a stop leaves
-- holds the arrays that the pool had, where it was wanting once they were made. Or numbers are used up.
abbrev pub LeavesPool : {R : Type 0} → (R → RackView) → (R → R → Type 0) → R → R → Found → Type 0
LeavesPool seen runs rack back f =
    MeansTheSame (disks_of (seen rack)) (now_in (seen rack)) (now_in (seen back)) ⊎ (KeepsPool (seen rack) (seen back) f ⊎ HasUsedUp seen runs rack back)
