-- A pool that took a new drive in at a place, whose drive was missing or gave way to it, and what keeps a pool so that it opens again.
use Rattle.std.specs.Prelude.{◌≡◌, ◌≢◌, ◌⊎◌, ℕ, ◌+◌, ◌-◌, ◌<◌, ◌≤◌, ◌^◌, ◌==◌, if◌then◌else◌, Bool, true, false, List, length, map, Some, None}
use Rattle.std.specs.List.{range_with_len}
use Rattle.rack.specs.Values.{Keeps, MayLeave}
use Rattle.rack.specs.Seen.{Image, IsLive, RackView}
use Rattle.slice_rack.specs.Runs.{IsSliced}
use Rattle.slice_rack.specs.Changes.{Seats}
use Rattle.slice_rack.specs.Slices.{Slices}
use Rattle.pool_state.specs.declared.contents.Copied.{Copied}
use Rattle.pool_state.specs.declared.contents.Plan.{Plan}
use Rattle.pool_state.specs.declared.contents.State.{State}
use Rattle.array_image.specs.Places.{drive_id, state_sector, super_sector}
use Rattle.array_image.specs.States.{is_current, id_of}
use Rattle.array_model.specs.View.{View}
use Rattle.pool_image.specs.Disks.{Disks, disks_of, identities_of}
use Rattle.pool_image.specs.Drives.{Found, drive_sector, first_of}
use Rattle.pool_image.specs.Meaning.{is_member}
use Rattle.raid_laws.specs.Book.{OnlyMarksSince}
use Rattle.raid_laws.specs.Enlisting.{enlisted, next_drive, with_drive}
use Rattle.raid_laws.specs.Missing.{raised}
use Rattle.raid_laws.specs.Moves.{KeepsArrays}
use Rattle.raid_laws.specs.NewDrive.{SeatsDrive, joins}
use Rattle.raid_laws.specs.Raid.{Raid}
use Rattle.pool_model.specs.Left.{HasNoSuper, IsPickOutsideSlices}

-- The pool f on these disks once a place has a disk by the state s: all other places have the disks that they had. What is remembered of
-- the disk are the superblocks that the place's drive had.
abbrev pub taken : Found → Disks → (place disk : ℕ) → State → Found
taken f disks place disk s = record f {
  disks = disks;
  contents = λ d u. if d == disk then drive_sector f place u else f.contents d u;
  state = s;
  seats = λ p. if p == place then Some disk else f.seats p;
}

-- the arrays of a book, by number
abbrev pub views_of : Raid → List View
views_of v = map v.arrays (range_with_len 0 v.state.made)

-- A place of f gets another disk, of so many sectors, by the book v, by which its own may be missing: no other place's is that had one. The disk is none of
-- theirs, and it gets the place's slices: `t` and `u` are the tables before and after.
pub record SeatsNew (f : Found) (t u : Slices) (v : Raid) (place disk sectors : ℕ) : Type 0 where
  pub listed : place < length v.state.drives.items
  pub others : (p d : ℕ) → p ≢ place → f.seats p ≡ Some d → (is_current v.state p ≡ true) × (d ≢ disk)
  pub fresh : (p : ℕ) → p ≢ place → id_of v.state p ≢ Some (next_drive v.state).0
  pub room : v.state.epoch < 2 ^ 63 - 1
  pub seats : SeatsDrive (views_of v) place disk sectors t u
  -- it reaches the arrays that the place is a member of
  pub members : (n : ℕ) → n < f.state.made → joins (views_of v) place sectors n ≡ is_member f n place

-- outside the slices the disks but one show z after x as they did, and can still be read
abbrev pub KeepsOutsideSlices : Slices → ℕ → RackView → RackView → Type 0
KeepsOutsideSlices t disk x z =
    (d s : ℕ) → d ≢ disk → IsLive x x d s → ((w : List ℕ) → IsSliced t d s w → ⊥) → IsLive z z d s × Keeps (x.held d s) (z.held d s)

-- Outside the slices the disks show z after x as they did, but for the new one. There no superblock stands where slices of arrays would begin
-- that the place is no member of. The disks that came, and the one that the place had before, say states that are earlier than the new one: that one may say the
-- state before.
pub record KeepsRest (f : Found) (t u : Slices) (v : Raid) (place disk : ℕ) (x z : RackView) : Type 0 where
  pub low : disk < z.disks
  pub disks : f.disks.count ≤ z.disks
  pub sectors : (d : ℕ) → d < f.disks.count → z.sectors d ≡ f.disks.sectors d
  pub outside : KeepsOutsideSlices t disk x z
  pub alone :
      (i : Image) → IsPickOutsideSlices u z i → (n first : ℕ) → n < f.state.made → is_member f n place ≡ false → first_of f n ≡ Some first
      → first + super_sector < z.sectors disk → HasNoSuper f.state.pool.0 n (i disk (first + super_sector))
  pub earlier :
      (i : Image) → IsPickOutsideSlices u z i → (d : ℕ) → d < z.disks → d ≢ disk → (f.disks.count ≤ d) ⊎ (f.seats place ≡ Some d)
      → (copy : Copied) → (identities_of (disks_of z) i d).copied ≡ Some copy → copy.state.epoch < raised v.state.epoch

-- The drive of a place is a new one in the book: marks alone come to its state, and but for its members the arrays stay.
pub record JoinsBook (v w : Raid) (place units : ℕ) (plan : Plan) (joining : ℕ → Bool) : Type 0 where
  pub marks : OnlyMarksSince (enlisted place units plan v.state) w.state
  pub arrays : KeepsArrays (with_drive place units plan joining v) w

-- ---- where no drive was taken in

-- the pool f on disks of which some were attached
abbrev pub attached : Found → Disks → Found
attached f disks = record f { disks = disks }

-- A disk may have been written, which is no place's drive, or was one. The disks that came say states that are earlier than the pool's, and this
-- one, where it was no drive, one that it may have said before, or none. Where its place is current by a state no superblock stands on it that isn't
-- to. Outside the slices the others show z after x as they did.
pub record KeepsOthers (f : Found) (t : Slices) (s : State) (disk : ℕ) (x z : RackView) : Type 0 where
  pub disks : f.disks.count ≤ z.disks
  pub sectors : (d : ℕ) → d < f.disks.count → z.sectors d ≡ f.disks.sectors d
  pub drive : ((p : ℕ) → f.seats p ≢ Some disk) ⊎ ((p : ℕ) × (f.seats p ≡ Some disk))
  pub outside : KeepsOutsideSlices t disk x z
  pub alone :
      (i : Image) → IsPickOutsideSlices t z i → (n p first : ℕ) → n < f.state.made → is_current s p ≡ true → f.seats p ≡ Some disk → is_member f n p ≡ false
      → first_of f n ≡ Some first → first + super_sector < z.sectors disk → HasNoSuper f.state.pool.0 n (i disk (first + super_sector))
  pub earlier :
      (i : Image) → IsPickOutsideSlices t z i → (d : ℕ) → d < z.disks → f.disks.count ≤ d
      → (copy : Copied) → (identities_of (disks_of z) i d).copied ≡ Some copy → copy.state.epoch < f.state.epoch
  pub stranger :
      (i : Image) → IsPickOutsideSlices t z i → ((p : ℕ) → f.seats p ≢ Some disk) → disk < f.disks.count
      → (copy : Copied) → (identities_of (disks_of z) i disk).copied ≡ Some copy → MayLeave (x.held disk state_sector) (i disk state_sector)

-- a place of the pool gave its disk up: the drive that it had says states that are earlier than the book's
pub record LacksDrive (f : Found) (t u : Slices) (v : Raid) (place : ℕ) (x : RackView) : Type 0 where
  pub vacated : Seats t u place None
  pub missing : is_current v.state place ≡ false
  pub earlier :
      (d : ℕ) → f.seats place ≡ Some d → (i : Image) → IsPickOutsideSlices u x i
      → (copy : Copied) → (identities_of (disks_of x) i d).copied ≡ Some copy → copy.state.epoch < v.state.epoch

-- ---- ids

-- The drives have ids of serials that were given.
pub record AreSerial (s : State) : Type 0 where
  pub serial : ℕ → ℕ
  pub ids : (p : ℕ) (id : List ℕ) → id_of s p ≡ Some id → (serial p < s.serial) × (id ≡ drive_id s.pool.0 (serial p))

-- the ids of serials up to one of them differ
abbrev pub AreDistinct : List ℕ → ℕ → Type 0
AreDistinct pool last = (a b : ℕ) → a ≤ last → b ≤ last → drive_id pool a ≡ drive_id pool b → a ≡ b
