-- What the disks of a pool in service say, outside its slices, of its drives and of other pools, so that any one drive may be absent at its end.
use Rattle.std.specs.Prelude.{◌≡◌, ◌≢◌, ◌⊎◌, ℕ, ◌<◌, ◌≤◌, true, false, Some, None}
use Rattle.std.specs.Option.{option_map_or}
use Rattle.rack.specs.Seen.{Image, RackView}
use Rattle.slice_rack.specs.Slices.{Slices}
use Rattle.gpt_table.specs.Changes.{the_table}
use Rattle.gpt_table.specs.Disk.{Contents}
use Rattle.pool_state.specs.declared.contents.State.{State}
use Rattle.array_image.specs.Places.{drive_id}
use Rattle.array_image.specs.States.{is_current}
use Rattle.pool_image.specs.Disks.{Identity, disks_of, id_by, identities_of}
use Rattle.pool_image.specs.Drives.{Found}
use Rattle.pool_image.specs.Meaning.{is_table}
use Rattle.pool_model.specs.Absent.{IsApart}
use Rattle.pool_model.specs.Left.{IsPickOutsideSlices}

-- contents of a disk of so many sectors have the table of a place's drive, with its slices
abbrev pub IsTabled : Found → (place sectors : ℕ) → Contents → Type 0
IsTabled f place sectors disk = option_map_or (is_table f place sectors) (the_table sectors disk) false ≡ true

-- A disk doesn't have an id that a pool gives to a drive later, before its serial is `bound`. (Serials are written in four bytes, so ids come again.)
abbrev pub IsUngiven : State → (bound : ℕ) → Identity → Type 0
IsUngiven s bound z = (serial : ℕ) → s.serial ≤ serial → serial < bound → id_by z.table z.copied ≢ Some (drive_id s.pool.0 serial)

-- a disk that is apart from a pool, and stays so when the pool takes drives in
pub record IsStranger (f : Found) (bound : ℕ) (z : Identity) : Type 0 where
  pub apart : IsApart f z
  pub ungiven : IsUngiven f.state bound z

-- Contents of a pool's disks have the table of each drive, by the state s. But nothing is said of disks of `Out`, unless they are drives of current places.
abbrev pub AreTabled : Found → (Out : ℕ → Type 0) → State → Image → Type 0
AreTabled f Out s i = (p d : ℕ) → f.seats p ≡ Some d → (is_current s p ≡ true) ⊎ (Out d → ⊥) → IsTabled f p (f.disks.sectors d) (i d)

-- so have the drives of current places, whatever the disks may be left with outside the slices
abbrev pub HoldTabled : Found → State → Slices → RackView → Type 0
HoldTabled f s t x = (i : Image) → IsPickOutsideSlices t x i → AreTabled f (λ d. Unit {0}) s i

-- Contents of the disks of a pool, by the state s: each of its drives has its table, and all other disks are strangers to it. But nothing is said of disks of
-- `Out`, unless they are drives of current places.
pub record SaysNoImpostor (f : Found) (bound : ℕ) (Out : ℕ → Type 0) (s : State) (i : Image) : Type 0 where
  pub tables : AreTabled f Out s i
  pub others : (d : ℕ) → ((p : ℕ) → f.seats p ≡ Some d → ⊥) → (Out d → ⊥) → d < f.disks.count → IsStranger f bound (identities_of f.disks i d)

-- so it is whatever the disks may be left with outside the slices
abbrev pub NoImpostor : Found → (bound : ℕ) → (Out : ℕ → Type 0) → State → Slices → RackView → Type 0
NoImpostor f bound Out s t x = (i : Image) → IsPickOutsideSlices t x i → SaysNoImpostor f bound Out s i

-- Of a disk that a place of f got, where f is h since: it has the table of the place's drive, and other disks that came are strangers, as the one is that
-- the place had, but for those of `Out`.
pub record TakesAlone (f h : Found) (bound : ℕ) (Out : ℕ → Type 0) (u : Slices) (place disk : ℕ) (z : RackView) : Type 0 where
  pub own : (i : Image) → IsPickOutsideSlices u z i → IsTabled h place (z.sectors disk) (i disk)
  pub strangers :
      (i : Image) → IsPickOutsideSlices u z i → (d : ℕ) → d < z.disks → d ≢ disk → (Out d → ⊥) → (f.disks.count ≤ d) ⊎ (f.seats place ≡ Some d)
      → IsStranger h bound (identities_of (disks_of z) i d)

-- ---- disks that are left out

-- a disk says nothing of any pool
pub record IsSilent (z : Identity) : Type 0 where
  pub state : z.copied ≡ None
  pub table : z.table ≡ None

-- Contents j are i but for disks that are left out, as where their images are empty. None of these is a drive of the pool, and each disk of `Out` is left out
-- that is none.
abbrev pub LeaveOut : Found → (Out : ℕ → Type 0) → (i j : Image) → Type 0
LeaveOut f Out i j =
    (d : ℕ) → ((Out d → (p : ℕ) × (f.seats p ≡ Some d)) × (j d ≡ i d)) ⊎ (((p : ℕ) → f.seats p ≡ Some d → ⊥) × IsSilent (identities_of f.disks j d))
