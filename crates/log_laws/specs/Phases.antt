-- Calls of a rack of slices in a row, of which whole places go: once a disk of a place has answered `Gone`, none of its disks is
-- called again.
use Rattle.std.specs.Prelude.{◌≡◌, ℕ, ◌<◌, Bool, true, false, ◌==◌, List, length, slice_index, slice_get, ◌+◌, Some}
use Rattle.std.specs.List.{list_any}
use Rattle.std.specs.Option.{option_map_or}
use Rattle.rack.specs.Values.{MayLeave, IsSingle}
use Rattle.rack.specs.Seen.{RackView, IsLive, Rose}
use Rattle.rack.specs.Sequences.{WritesOnly}
use Rattle.rack.specs.Targets.{Target, look}
use Rattle.log_laws.specs.Bytes.{sector_in}
use Rattle.array_image.specs.Record.{gate_sector}
use Rattle.array_image.specs.Places.{place_of, log_slice, log_sectors}

-- one of a place's disks that was called has answered `Gone`
pub record WentBy (a b : RackView) (called : ℕ → Type 0) (p : ℕ) : Type 0 where
  pub disk : ℕ
  pub of_place : place_of disk ≡ p
  pub was_called : called disk
  pub rose : Rose (a.faults disk) (b.faults disk)

-- Calls of these disks that may have written these values, but to no place that had gone before. `went` are the places that had
-- gone, `now` those that have.
pub record Calls (a b : RackView) (called : ℕ → Type 0) (may : ℕ → ℕ → List ℕ → Type 0) (went now : ℕ → Bool) : Type 0 where
  pub only : WritesOnly a b (λ d s v. (went (place_of d) ≡ false) × may d s v)
  pub still : (p : ℕ) → now p ≡ false → went p ≡ false
  pub cause : (p : ℕ) → went p ≡ false → now p ≡ true → WentBy a b called p

-- they wrote these values to all places that are left
pub record Puts (a b : RackView) (called : ℕ → Type 0) (may must : ℕ → ℕ → List ℕ → Type 0) (went now : ℕ → Bool) : Type 0 where
  pub calls : Calls a b called may went now
  pub last : (d s : ℕ) (w : List ℕ) → IsLive a b d s → now (place_of d) ≡ false → must d s w → (b.held d s).current ≡ w

-- they wrote nothing, and synced these disks of all places that are left
pub record SyncsAll (a b : RackView) (called on : ℕ → Type 0) (went now : ℕ → Bool) : Type 0 where
  pub calls : Calls a b called (λ d s v. ⊥) went now
  pub done : (d s : ℕ) → on d → now (place_of d) ≡ false → IsLive a b d s → IsSingle (b.held d s)

-- they wrote these values, and made them durable on all places that are left
pub record Settles (a b : RackView) (called : ℕ → Type 0) (may must : ℕ → ℕ → List ℕ → Type 0) (went now : ℕ → Bool) : Type 0 where
  pub calls : Calls a b called may went now
  pub durable :
      (d s : ℕ) (w v : List ℕ) → IsLive a b d s → now (place_of d) ≡ false → must d s w → MayLeave (b.held d s) v → v ≡ w

-- ---- the places that a call goes over

-- each is below 16 and has a log slice
abbrev pub AreLogs : (ℕ → ℕ) → List ℕ → Type 0
AreLogs sectors on =
    (j : ℕ) → j < length on → (slice_index on j < 16) × (sectors (log_slice (slice_index on j)) ≡ log_sectors)

-- the log slice of one of the first places of a list
pub record IsLogOf (on : List ℕ) (many d : ℕ) : Type 0 where
  pub at : ℕ
  pub below : at < many
  pub slice : d ≡ log_slice (slice_index on at)

-- this value, for a sector of these log slices
pub record IsOnEach (on : List ℕ) (many sector : ℕ) (block : List ℕ) (d s : ℕ) (v : List ℕ) : Type 0 where
  pub disk : IsLogOf on many d
  pub there : s ≡ sector
  pub value : v ≡ block

-- this value for a sector
pub record IsThere (disk sector : ℕ) (block : List ℕ) (d s : ℕ) (v : List ℕ) : Type 0 where
  pub disk_is : d ≡ disk
  pub there : s ≡ sector
  pub value : v ≡ block

-- ---- the places that have gone

abbrev pub went : List Bool → ℕ → Bool
went places p = option_map_or (λ b. b) (slice_get places p) false

-- ---- what is written

-- the first sectors of a record, each for the same place in a half of these log slices
pub record IsOfRecord (on : List ℕ) (first : ℕ) (bytes : List ℕ) (many d s : ℕ) (v : List ℕ) : Type 0 where
  pub at : ℕ
  pub below : at < many
  pub each : IsOnEach on (length on) (first + at) (sector_in bytes at) d s v

-- a sector that a rack has
abbrev pub IsHad : RackView → ℕ → ℕ → Type 0
IsHad x d s = (d < x.disks) × (s < x.sectors d)

-- the payload of a sector that it has
abbrev pub IsWanted : RackView → List Target → ℕ → ℕ → List ℕ → Type 0
IsWanted x xs d s v = IsHad x d s × (look xs d s ≡ Some v)

-- a disk that has a target
abbrev pub has_target : List Target → ℕ → Bool
has_target xs d = list_any (λ t. t.disk == d) xs

abbrev pub IsTargeted : List Target → ℕ → Type 0
IsTargeted xs d = has_target xs d ≡ true

-- one below some number
abbrev pub IsTargetedBelow : List Target → ℕ → ℕ → Type 0
IsTargetedBelow xs many d = (d < many) × IsTargeted xs d

-- ---- a whole commit

-- no place has gone
abbrev pub AllLeft : (ℕ → Bool) → Type 0
AllLeft went = (p : ℕ) → went p ≡ false

-- gates are closed only where no place has gone before
abbrev pub IsClosing : (ℕ → Bool) → List ℕ → List ℕ → ℕ → ℕ → List ℕ → Type 0
IsClosing went on block d s v = AllLeft went × IsOnEach on (length on) gate_sector block d s v
