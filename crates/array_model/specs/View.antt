-- What contracts see of an array.
use Rattle.std.specs.Prelude.{Option, ◌≡◌, ℕ, suc, ◌/◌, ◌%◌, ◌<◌, ◌≤◌, ◌^◌, Bool, true, false, ◌==◌, ◌&&◌, ◌||◌, not, nat_le, if◌then◌else◌, List, [], ◌∷◌, map, length, slice_get, Some, option_map, unwrap_or}
use Rattle.std.specs.Option.{option_map_or}
use Rattle.std.specs.List.{range_with_len, list_any, list_all}
use Rattle.rack.specs.Seen.{RackView, Rose}
use Rattle.shr_base.specs.declared.Id.{Id}
use Rattle.md_super.specs.declared.superblock.Super.{Super}
use Rattle.md_super.specs.Profile.{is_mirror, is_raid5}
use Rattle.array_image.specs.Places.{place_of}
use Rattle.array_image.specs.Supers.{is_reshaping, new_row}
use Rattle.array_image.specs.Stripes.{capacity}
use Rattle.array_image.specs.Arrays.{Member, Shape, final_layout, first_layout, place_with}
use Rattle.array_image.specs.Spent.{spent_by}
use Rattle.array_model.specs.declared.Seat.{Seat}
use Rattle.array_model.specs.declared.Seat.TheVariants.{Whole, Missing, Rebuilding}

pub record View : Type 0 where
  pub number : ℕ
  -- of its fields those of the array count
  pub truth : Super
  -- the seat and the id of each member, by position
  pub seats : List Seat
  pub devices : List Id
  -- the places that answered Gone since they were last heeded, each once
  pub went : List ℕ
  -- the first row left to resync: the number of rows where none is
  pub resync : ℕ
  pub young : Bool
  -- its resync_offset was made 0 durably by a write of this run
  pub marked : Bool

-- ---- its shape

-- how many sectors of a member's data count
abbrev pub seat_reach : ℕ → Seat → ℕ
seat_reach size Whole = size
seat_reach size Missing = 0
seat_reach size (Rebuilding to) = to

abbrev pub is_whole_seat : Seat → Bool
is_whole_seat Whole = true
is_whole_seat Missing = false
is_whole_seat (Rebuilding to) = false

abbrev pub is_missing_seat : Seat → Bool
is_missing_seat Whole = false
is_missing_seat Missing = true
is_missing_seat (Rebuilding to) = false

-- its member isn't missing
abbrev pub is_seated : Seat → Bool
is_seated seat = not (is_missing_seat seat)

-- the place of a position, and 16 where the roles name none
abbrev pub place_at : View → ℕ → ℕ
place_at v n = unwrap_or (place_with v.truth.roles.items n) 16

-- the member on a place by its seat, in an array of this size
abbrev pub member_by_seat : ℕ → ℕ → Option Seat → Member
member_by_seat size place seat = record {
  place = place;
  reach = option_map_or (seat_reach size) seat 0;
  is_there = option_map_or is_seated seat false;
  is_whole = option_map_or is_whole_seat seat false;
}

-- the member of a position
abbrev pub member_on : View → ℕ → Member
member_on v n = member_by_seat v.truth.size (place_at v n) (slice_get v.seats n)

-- the shape that the run goes by
unfoldable pub shape_of : View → Shape
shape_of v = record {
  members = map (member_on v) (range_with_len 0 v.truth.raid_disks);
  size = v.truth.size;
  moved = final_layout v.truth;
  layout = first_layout v.truth;
  reached = if is_reshaping v.truth then v.truth.reshape_position else 0;
}

-- the sectors of the array
abbrev pub sectors_of : View → ℕ
sectors_of v = capacity (first_layout v.truth) v.truth.size

-- the rows of its members' data
abbrev pub rows_of : View → ℕ
rows_of v = v.truth.size / 128

-- whether a sector can't be had any more
abbrev pub spent_in : View → ℕ → Bool
spent_in v x = spent_by (shape_of v) v.resync x

-- how many members aren't missing
abbrev pub present : List Seat → ℕ
present [] = 0
present (seat ∷ others) = if is_missing_seat seat then present others else suc (present others)

-- No member is missing or rebuilding, no row is left to resync, and it is neither young nor reshaping. Its writes go past the log.
abbrev pub is_whole_array : View → Bool
is_whole_array v =
    list_all is_whole_seat v.seats
    && ((v.resync == rows_of v) && (not v.young && not (is_reshaping v.truth)))

-- a mirror of which one member at most is left, which is written past the log as well
abbrev pub is_alone : View → Bool
is_alone v = is_mirror v.truth && nat_le (present v.seats) 1

-- a member's sector may have several values since its last sync, where writes go past the log
abbrev pub may_vary : View → Bool
may_vary v = v.marked || is_alone v

-- a place has answered Gone
abbrev pub has_gone : View → ℕ → Bool
has_gone v place = list_any (λ p. p == place) v.went

-- ---- what holds of each array

-- as its superblocks make it, and as losses and steps of maintenance leave it
pub record IsArray (v : View) : Type 0 where
  pub few : v.number < 16
  pub level : (is_mirror v.truth || is_raid5 v.truth) ≡ true
  pub least : 2 ≤ v.truth.raid_disks
  pub most : v.truth.raid_disks ≤ (if is_mirror v.truth then 2 else 16)
  pub seats : length v.seats ≡ v.truth.raid_disks
  pub devices : length v.devices ≡ v.truth.raid_disks
  pub small : v.truth.size < 2 ^ 48
  pub whole_rows : v.truth.size % 128 ≡ 0
  -- each position has a place
  pub placed : (n : ℕ) → n < v.truth.raid_disks → (place : ℕ) × (place_with v.truth.roles.items n ≡ Some place) × (place < 16)
  pub synced : v.resync ≤ rows_of v
  -- a reshape leads RAID-5 to three members or more, and stands between two rows
  pub reshape :
      is_reshaping v.truth ≡ true
      → (is_raid5 v.truth ≡ true) × (3 ≤ v.truth.raid_disks) × (v.truth.reshape_position % new_row v.truth ≡ 0)

-- ---- losses

-- superblocks of one array that may differ in events and in the mark
pub record HasGeometry (t u : Super) : Type 0 where
  pub set : u.set_id ≡ t.set_id
  pub level : u.level ≡ t.level
  pub size : u.size ≡ t.size
  pub disks : u.raid_disks ≡ t.raid_disks
  pub roles : u.roles ≡ t.roles
  pub features : u.feature_map ≡ t.feature_map
  pub position : u.reshape_position ≡ t.reshape_position

-- the rest of what contracts see stays
pub record IsSameArray (v w : View) : Type 0 where
  pub number : w.number ≡ v.number
  pub geometry : HasGeometry v.truth w.truth
  pub devices : w.devices ≡ v.devices
  pub resync : w.resync ≡ v.resync
  pub young : w.young ≡ v.young

-- the seats without some places
abbrev pub seat_unless : (ℕ → Bool) → ℕ → Seat → Seat
seat_unless lost place seat = if lost place then Missing else seat

-- Places are lost: their members are missing from then on, nobody else's seat changed, and they are listed.
pub record LosesPlaces (v w : View) (lost : ℕ → Bool) : Type 0 where
  pub seats : (n : ℕ) → slice_get w.seats n ≡ option_map (seat_unless lost (place_at v n)) (slice_get v.seats n)
  pub went : (place : ℕ) → has_gone w place ≡ (lost place || has_gone v place)

-- a disk of a place has refused a call
abbrev pub HasFault : RackView → RackView → ℕ → Type 0
HasFault a b place = (disk : ℕ) × (place_of disk ≡ place) × Rose (a.faults disk) (b.faults disk)

-- places that answered Gone in calls between a and b are noted, each with its cause
pub record IsNoted (v w : View) (a b : RackView) : Type 0 where
  pub same : IsSameArray v w
  pub lost : ℕ → Bool
  pub loses : LosesPlaces v w lost
  pub cause : (place : ℕ) → lost place ≡ true → HasFault a b place
