-- The contents of a new pool's disks, and what they mean.
use Rattle.std.specs.Prelude.{◌≡◌, ◌≢◌, ℕ, ◌+◌, ◌<◌, ◌≤◌, true, false, List, [], ◌∷◌, length, replicate, slice_get, Some, None}
use Rattle.std.specs.Result.{result_ok}
use Rattle.rack.specs.Seen.{Image}
use Rattle.md_super.specs.declared.superblock.Super.{Super}
use Rattle.pool_state.specs.Sector.{decoded}
use Rattle.array_image.specs.Places.{arrays_first, array_id, drive_id, state_sector, super_sector}
use Rattle.array_image.specs.Supers.{super_of}
use Rattle.pool_image.specs.Disks.{Disks}
use Rattle.pool_image.specs.Meaning.{Volume, damaged, in_state, meaning, no_pool, refusal_of}
use Rattle.pool_format.specs.declared.Birth.{Birth}
use Rattle.pool_format.specs.declared.planning.NewArray.{NewArray}
use Rattle.pool_format.specs.declared.planning.NewPool.{NewPool}
use Rattle.pool_format.specs.Drives.{HasParts, IsCopyOf, no_state}
use Rattle.pool_format.specs.Plan.{IsPlan, IsPlanOf, has}

-- Contents of the disks of a new pool: each disk is the drive of its number. The first ones say the state, and the others say none yet.
pub record IsNewPool (plan : NewPool) (birth : Birth) (disks : Disks) (c : Image) : Type 0 where
  pub is_plan : IsPlan plan
  pub units : List ℕ
  pub extent : ℕ
  pub planned : IsPlanOf units extent plan
  pub count : disks.count ≡ length plan.units.items
  pub logs : (d : ℕ) → d < disks.count → arrays_first + 33 ≤ disks.sectors d
  pub members :
      (n d : ℕ) (a : NewArray) → slice_get plan.arrays.items n ≡ Some a → has a.members.items d ≡ true → d < disks.count
      → a.first + (a.size + 2048) + 33 ≤ disks.sectors d
  pub sized : (d u : ℕ) → d < disks.count → u < disks.sectors d → length (c d u) ≡ 512
  pub drives : (d : ℕ) → d < disks.count → HasParts plan birth d (disks.sectors d) (c d)
  pub said : ℕ
  pub some : 0 < said
  pub copies : (d : ℕ) → d < said → d < disks.count → IsCopyOf plan birth d (c d state_sector)
  pub silent : (d : ℕ) → said ≤ d → d < disks.count → c d state_sector ≡ no_state
  -- the ids of its drives differ
  pub ids : (p q : ℕ) → drive_id birth.pool p ≡ drive_id birth.pool q → p < disks.count → q < disks.count → p ≡ q
  -- what stands where a drive would have the superblock of an array of which it is no member is none of that array's
  pub others :
      (n d : ℕ) (a : NewArray) (t : Super) → slice_get plan.arrays.items n ≡ Some a → has a.members.items d ≡ false → d < disks.count
      → super_of (c d (a.first + super_sector)) ≡ Some t → t.set_id.0 ≢ array_id birth.pool n

-- a sector says no copy of a state
abbrev pub SaysNone : List ℕ → Type 0
SaysNone v = result_ok (decoded v) ≡ None

-- The meaning of contents isn't refused: it is one volume of so many sectors, which are zeros.
pub record MeanZeros (disks : Disks) (c : Image) (sectors : ℕ) : Type 0 where
  pub volume : Volume
  pub meant : meaning disks c ≡ Some (volume ∷ [])
  pub size : volume.sectors ≡ sectors
  pub zeros : (s : ℕ) → s < sectors → volume.contents s ≡ replicate 512 0

-- What contents mean that a stop in the making of a pool left, once its copies were cleared: they are refused, since no disk has a copy of
-- a state or a drive has none yet; or they mean that one volume.
pub data MeanNoneOrZeros (disks : Disks) (c : Image) (sectors : ℕ) : Type 0 where
  unsaid : refusal_of disks c ≡ Some no_pool → MeanNoneOrZeros disks c sectors
  partly : (p : ℕ) → p < disks.count → refusal_of disks c ≡ Some (damaged p in_state) → MeanNoneOrZeros disks c sectors
  zeros : MeanZeros disks c sectors → MeanNoneOrZeros disks c sectors
