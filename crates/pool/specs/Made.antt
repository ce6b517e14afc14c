-- What the making of a pool leaves on a bay's disks.
use Rattle.std.specs.Prelude.{◌≡◌, ◌≢◌, ◌⊎◌, ℕ, ◌+◌, ◌-◌, ◌*◌, ◌<◌, false, List, length, slice_get, Some}
use Rattle.rack.specs.Values.{IsSector, MayLeave}
use Rattle.rack.specs.Seen.{Image, RackView}
use Rattle.rack.specs.Moments.{Leaves}
use Rattle.rack.specs.Sequences.{IsMix}
use Rattle.md_super.specs.declared.superblock.Super.{Super}
use Rattle.array_image.specs.Places.{array_id, drive_id, state_sector, super_sector}
use Rattle.array_image.specs.Supers.{super_of}
use Rattle.lvm_group.specs.Runs.{Linear, sectors_in}
use Rattle.raid_rack.specs.declared.arrays.Arrays.{Arrays}
use Rattle.pool_image.specs.Disks.{disks_of}
use Rattle.pool_image.specs.Drives.{Found}
use Rattle.pool_image.specs.Meaning.{array_sectors, arrays_held}
use Rattle.pool_scan.specs.Scanning.{now_in}
use Rattle.pool_rest.specs.Resting.{AreSectors}
use Rattle.pool_format.specs.declared.Birth.{Birth}
use Rattle.pool_format.specs.declared.planning.NewArray.{NewArray}
use Rattle.pool_format.specs.declared.planning.NewPool.{NewPool}
use Rattle.pool_format.specs.Data.{array_sector}
use Rattle.pool_format.specs.Format.{IsGivenBack, IsMade}
use Rattle.pool_format.specs.Parts.{new_state}
use Rattle.pool_format.specs.Plan.{capacity_of, has}
use Rattle.pool_format.specs.Writing.{InCleared}
use Rattle.new_pool.specs.Contents.{MeanNoneOrZeros, MeanZeros, SaysNone}
use Rattle.assembler_laws.specs.Holding.{AreSteady}
use Rattle.assembler.specs.Sound.{NoStraySuperblock, HaveOwnAreas, HoldSound, LieApart}

-- the ids of a pool's first drives, which are named after it, differ
abbrev pub HaveOwnIds : Birth → ℕ → Type 0
HaveOwnIds birth many = (p q : ℕ) → drive_id birth.pool p ≡ drive_id birth.pool q → p < many → q < many → p ≡ q

-- Where a drive would have the superblock of an array of which it is no member, contents of the disks have none of that array. So it is of a
-- pool whose id is new.
abbrev pub HaveNoOthers : NewPool → Birth → RackView → Image → Type 0
HaveNoOthers plan birth y c =
    (n d : ℕ) (a : NewArray) (t : Super) → slice_get plan.arrays.items n ≡ Some a → has a.members.items d ≡ false → d < y.disks
    → super_of (c d (a.first + super_sector)) ≡ Some t → t.set_id.0 ≢ array_id birth.pool n

-- contents of whole sectors
abbrev pub HaveWholeSectors : RackView → Image → Type 0
HaveWholeSectors y c = (d s : ℕ) → d < y.disks → s < y.sectors d → IsSector (c d s)

-- what is asked of disks and of a new pool's id, for contents of them to be known
pub record AreFair (plan : NewPool) (birth : Birth) (x y : RackView) (c : Image) : Type 0 where
  pub steady : AreSteady x
  pub ids : HaveOwnIds birth x.disks
  pub sized : HaveWholeSectors y c
  pub others : HaveNoOthers plan birth y c

-- the disks held no copy of a state
abbrev pub HeldNone : RackView → Type 0
HeldNone x = (d : ℕ) (v : List ℕ) → d < x.disks → MayLeave (x.held d state_sector) v → SaysNone v

-- What a stop in the making of a pool leaves on disks: they are as they were, but for copies of a state that were cleared; or the contents
-- have no meaning, since no drive says a state or one says none yet, or they mean the new volume. Where no disk held a copy, it is always one
-- of these two.
pub record MeansStop (plan : NewPool) (birth : Birth) (x y : RackView) (size : ℕ) (c : Image) : Type 0 where
  pub moment : IsMix x y (InCleared plan) c ⊎ (AreFair plan birth x y c → MeanNoneOrZeros (disks_of y) c size)
  pub blank : HeldNone x → AreFair plan birth x y c → MeanNoneOrZeros (disks_of y) c size

-- at each moment
abbrev pub StopsMean : NewPool → Birth → RackView → RackView → ℕ → Type 0
StopsMean plan birth x y size = x.traced → Leaves x y (MeansStop plan birth x y size)

-- The pool of disks on which one was made: it is sound, has the state that was planned, and its arrays hold what the plan says, the
-- sectors of the volume's group and else zeros. By the drives' tables its slices lie apart, so that targets of a record land there. The meaning of the disks is
-- one volume of so many sectors, all zeros.
pub record IsPoolOf (plan : NewPool) (birth : Birth) (y : RackView) (f : Found) (size : ℕ) : Type 0 where
  pub holds : HoldSound y f
  pub state : f.state ≡ new_state plan birth
  pub sectors : (n : ℕ) (a : NewArray) → slice_get plan.arrays.items n ≡ Some a → array_sectors f n ≡ (length a.members.items - 1) * a.size
  pub values :
      (n x : ℕ) (a : NewArray) → slice_get plan.arrays.items n ≡ Some a → x < (length a.members.items - 1) * a.size
      → arrays_held f n x ≡ array_sector plan birth n x
  pub apart : LieApart f
  -- no superblock of an array stands on a drive that is no member of it
  pub alone : NoStraySuperblock f f.contents
  -- its arrays are all ready for the volume, and have the pool's metadata areas
  pub joined : f.state.joined ≡ f.state.made
  pub areas : HaveOwnAreas f
  pub means : MeanZeros (disks_of y) (now_in y) size

-- A pool was made on disks. Its volume has all the extents that the plan offers, and no slicing of the drives offers more. Where the
-- disks are told and have whole sectors they hold the pool then, so an opening finds it, and mean that volume. Stops inside left what has no
-- meaning or means that volume, once copies of a state were cleared.
pub record IsSoundlyMade (x y : RackView) (extent : ℕ) (birth : Birth) (a : Arrays) (l : Linear) : Type 0 where
  pub made : IsMade x y extent birth a l
  pub size : sectors_in l ≡ capacity_of made.plan * extent
  pub sound :
      AreSteady x → AreSectors y → HaveOwnIds birth x.disks → HaveNoOthers made.plan birth y (now_in y)
      → (f : Found) × IsPoolOf made.plan birth y f (sectors_in l)
  pub stops : StopsMean made.plan birth x y (capacity_of made.plan * extent)

-- What a refused making left on disks: a part of its writes, and stops inside it left what those of a whole one do.
pub record IsSafelyRefused (x y : RackView) (extent : ℕ) (birth : Birth) : Type 0 where
  pub back : IsGivenBack x y extent birth
  pub stops : StopsMean back.plan birth x y (capacity_of back.plan * extent)
