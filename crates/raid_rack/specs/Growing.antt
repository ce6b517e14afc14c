-- What a growth needs of the tables of slices.
use Rattle.std.specs.Prelude.{◌≡◌, ◌≢◌, ◌⊎◌, ℕ, ◌+◌, Bool, true, None, Some}
use Rattle.rack.specs.Seen.{RackView}
use Rattle.slice_rack.specs.Slices.{Slices, first_of, sectors_of, seat_of}
use Rattle.slice_rack.specs.declared.SliceRack.{SliceRack}
use Rattle.slice_rack.specs.SliceRack.{below_of, tables}
use Rattle.slice_rack.specs.Changes.{Adds, IsPast, Overlaps}
use Rattle.gpt_table.specs.Disk.{first_table, now_on}
use Rattle.array_image.specs.States.{is_current}
use Rattle.array_core.specs.Seats.{names, seat_of as member_of}
use Rattle.array_image.specs.Places.{member_slice, slice_of}
use Rattle.raid_laws.specs.NewDrive.{first_in, slice_length}
use Rattle.raid_laws.specs.Raid.{Raid}
use Rattle.transition_laws.specs.Changes.{Change}
use Rattle.growth_laws.specs.Growing.{HasSettledSlice, MakesReshape, reaching, views_of}
use Rattle.growth_laws.specs.NewArrays.{new_size}
use Rattle.raid_rack.specs.BareSlices.{AreBare, is_member_slice}
use Rattle.raid_rack.specs.RaidRack.{slices_by}

-- These sectors can't be the slice of a place's member of array n: the place has no disk, or they end past it or overlap another slice of it.
abbrev pub CannotAdd : Slices → RackView → (place n first sectors : ℕ) → Type 0
CannotAdd t x place n first sectors =
    (seat_of t place ≡ None) ⊎ (IsPast t x place first sectors ⊎ Overlaps t (member_slice place n) first sectors)

-- The slice of a place's member of array n can't be laid.
abbrev pub CannotLay : Slices → RackView → Raid → (place n : ℕ) → Type 0
CannotLay t x v place n = CannotAdd t x place n (first_in (views_of v) n) (slice_length (v.arrays n))

-- The slice of a place's member of array n has these sectors then, or no slice changes; the rack below stays.
abbrev pub LaysSlice : {R : Type 0} → (place n first sectors : ℕ) → SliceRack R → SliceRack R → Type 0
LaysSlice place n first sectors s r =
    (below_of r ≡ below_of s) × ((tables r ≡ tables s) ⊎ Adds (tables s) (tables r) (member_slice place n) first sectors)

-- It is laid where array n has its slices, of the array's length.
abbrev pub LaysMember : {R : Type 0} → Raid → (place n : ℕ) → SliceRack R → SliceRack R → Type 0
LaysMember v place n s r = LaysSlice place n (first_in (views_of v) n) (slice_length (v.arrays n)) s r

-- A step of array n's reshape that a place's member takes part in, with what contents hold in it where the member's slice is settled: this slice is laid
-- for it, and has no sector after it where the place hasn't joined. Where it has joined, and no stop before the step left a superblock on that slice, the
-- arrays of the volume keep what they hold (`Keeps`).
pub record ReshapesWith {R : Type 0} (seen : R → RackView) (change : Raid → Change) (Lacks : Raid → Raid → Type 0) (n place : ℕ) (v w : Raid) (s r : SliceRack R) (answered : Bool) (Keeps : Type 0) : Type 0 where
  pub laid : SliceRack R
  pub last : SliceRack R
  pub lays : LaysMember v place n s laid
  pub step : HasSettledSlice v n place (slices_by seen laid) → MakesReshape change Lacks n v w (slices_by seen laid) (slices_by seen last) answered
  pub drops : LaysSlice place n 0 0 last r
  pub old :
      HasSettledSlice v n place (slices_by seen laid) → AreBare (is_member_slice place n) (slices_by seen s) → AreBare (is_member_slice place n) (slices_by seen laid)
      → (member_of (w.arrays n) place ≡ None → ⊥) → Keeps

-- No slices but those of this number may have changed.
pub record KeepsOtherSlices (number : ℕ) (t u : Slices) : Type 0 where
  pub sectors : (d : ℕ) → slice_of d ≢ number → sectors_of u d ≡ sectors_of t d
  pub firsts : (d : ℕ) → slice_of d ≢ number → first_of u d ≡ first_of t d

-- These sectors can't be entered into the table of a place's disk: the place has no disk, or the disk had no valid table when it was read, in
-- calls on the rack r, or it has no room for them before the backup of its table.
abbrev pub CannotEnter : {R : Type 0} → (R → RackView) → (R → R → Type 0) → Slices → R → (place first sectors : ℕ) → Type 0
CannotEnter {R} seen runs t r place first sectors =
    (seat_of t place ≡ None)
    ⊎ (((disk : ℕ) × (seat_of t place ≡ Some disk)
    × ((s : R) × runs r s × ((seen s).told disk → first_table ((seen s).sectors disk) (now_on (seen s) disk) ≡ None)))
    ⊎ IsPast t (seen r) place first (sectors + 33))

-- An array of so many extents can't be made: the slice of a place that is to be its member, and isn't missing, can't be entered into the table
-- of its disk, or can't be laid there.
pub record CannotMake {R : Type 0} (seen : R → RackView) (runs : R → R → Type 0) (t : Slices) (r : R) (v : Raid) (height : ℕ) : Type 0 where
  pub place : ℕ
  pub among : names (reaching v height) place ≡ true
  pub current : is_current v.state place ≡ true
  pub cause :
      CannotEnter seen runs t r place (first_in (views_of v) v.state.made) (new_size v height + 2048)
      ⊎ CannotAdd t (seen r) place v.state.made (first_in (views_of v) v.state.made) (new_size v height + 2048)
