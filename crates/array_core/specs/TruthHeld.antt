-- Superblocks that say an array's truth, in whatever a stop leaves of their sectors.
use Rattle.std.specs.Prelude.{◌≡◌, ◌≢◌, ℕ, ◌<◌, List, slice_get, Some, bit_and}
use Rattle.rack.specs.Values.{MayLeave, Keeps}
use Rattle.rack.specs.Seen.{RackView, IsLive}
use Rattle.md_super.specs.declared.superblock.Super.{Super}
use Rattle.array_image.specs.Places.{place_of, slice_of, super_sector}
use Rattle.array_image.specs.SoundArray.{array_fields}
use Rattle.array_image.specs.Supers.{super_of}
use Rattle.array_model.specs.declared.Seat.TheVariants.{Missing}
use Rattle.array_model.specs.Members.{slice_on}
use Rattle.array_model.specs.View.{View}

-- a truth of the pool's profile: it has no feature bits but those of a reshape and of a rebuild
abbrev pub HasFewBits : Super → Type 0
HasFewBits t = bit_and t.feature_map 0xfffffff9 ≡ 0

-- a sector has a place's superblock, with the array's fields of a truth
pub record SaysTruth (t : Super) (place : ℕ) (sector : List ℕ) : Type 0 where
  pub own : Super
  pub reads : super_of sector ≡ Some own
  pub same : array_fields own ≡ array_fields t
  pub on : own.dev_number ≡ place
  pub bits : HasFewBits own

-- a slice has its place's durably: the sector is told, and each value that a stop may leave there is such a superblock
pub record HasTruth (t : Super) (x : RackView) (d : ℕ) : Type 0 where
  pub live : IsLive x x d super_sector
  pub says : (sector : List ℕ) → MayLeave (x.held d super_sector) sector → SaysTruth t (place_of d) sector

-- The superblocks of an array's members say its truth, durably: each one that isn't missing.
abbrev pub HoldTruth : View → RackView → Type 0
HoldTruth v x = (k : ℕ) → k < v.truth.raid_disks → slice_get v.seats k ≢ Some Missing → HasTruth v.truth x (slice_on v k)

-- their sectors are told
abbrev pub TellSupers : View → RackView → Type 0
TellSupers v x = (k : ℕ) → k < v.truth.raid_disks → slice_get v.seats k ≢ Some Missing → IsLive x x (slice_on v k) super_sector

-- superblocks stay as they are
abbrev pub KeepsSupers : RackView → RackView → Type 0
KeepsSupers a b = (d : ℕ) → slice_of d ≢ 0 → IsLive a b d super_sector → Keeps (a.held d super_sector) (b.held d super_sector)
