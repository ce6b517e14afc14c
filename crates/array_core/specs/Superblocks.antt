-- The superblocks of an array's members, and how the array changes with them.
use Rattle.std.specs.Prelude.{◌≡◌, ℕ, ◌+◌, ◌-◌, ◌*◌, ◌^◌, Bool, false, ◌==◌, ◌&&◌, nat_lt, if◌then◌else◌, List, map, length, Some, None}
use Rattle.std.specs.Option.{option_map_or}
use Rattle.md_super.specs.declared.superblock.Super.{Super}
use Rattle.md_super.specs.Layout.{LeavesZeros}
use Rattle.array_image.specs.Supers.{is_reshaping, is_unclean, super_of}
use Rattle.array_model.specs.declared.Seat.{Seat}
use Rattle.array_model.specs.declared.Seat.TheVariants.{Whole, Missing, Rebuilding}
use Rattle.array_model.specs.View.{View, rows_of}
use Rattle.array_core.specs.declared.slots.Slot.{Slot}
use Rattle.array_core.specs.declared.Change.{Change}
use Rattle.array_core.specs.Slots.{slots_of, places_by}
use Rattle.array_core.specs.Seats.{slot_at}
use Rattle.array_core.specs.Opening.{resync_by}

-- ---- changes

-- a change names this place
abbrev pub is_rebuilt_on : Change → ℕ → Bool
is_rebuilt_on c place = option_map_or (λ p. p == place) c.place false

-- the seat of a place's member after a change
abbrev pub adopted_seat : Change → ℕ → Seat → Seat
adopted_seat c place Missing = Missing
adopted_seat c place Whole = if is_rebuilt_on c place then (if c.to == c.truth.size then Whole else Rebuilding c.to) else Whole
adopted_seat c place (Rebuilding to) = if is_rebuilt_on c place then (if c.to == c.truth.size then Whole else Rebuilding c.to) else Rebuilding to

-- the member of a place after a change: whole, with the id of the change, where it was no member before
abbrev pub adopted_slot : List Slot → Change → ℕ → Slot
adopted_slot slots c place = record {
  place = place;
  seat = option_map_or (λ s. adopted_seat c place s.seat) (slot_at slots place) Whole;
  device = option_map_or (λ s. s.device) (slot_at slots place) c.truth.device_id;
}

abbrev pub adopted_slots : View → Change → List Slot
adopted_slots v c = map (adopted_slot (slots_of v) c) (places_by c.truth)

-- one superblock leaves as many rows to resync as another, of as many
abbrev pub keeps_rows : Super → Super → Bool
keeps_rows old new = (new.resync_offset == old.resync_offset) && (new.size == old.size)

-- the first row left to resync after a change, which moves it only with the superblocks
abbrev pub adopted_resync : Bool → ℕ → Super → Super → ℕ
adopted_resync young resync old new = if keeps_rows old new then resync else resync_by young new

-- the array of a change
abbrev pub adopted : Change → View → View
adopted c v = record v {
  truth = c.truth;
  seats = map (λ s. s.seat) (adopted_slots v c);
  devices = map (λ s. s.device) (adopted_slots v c);
  resync = adopted_resync v.young v.resync v.truth c.truth;
  marked = v.marked && keeps_rows v.truth c.truth;
}

-- ---- settling

-- the member sector from which rows are left to resync, or in a young array to zero; all ones where none is
abbrev pub left_offset : View → ℕ
left_offset v =
    if v.young then (if is_unclean v.truth then v.truth.resync_offset else 2 ^ 64 - 1)
    else if nat_lt v.resync (rows_of v) then v.resync * 128
    else 2 ^ 64 - 1

abbrev pub is_settled : View → Bool
is_settled v = v.truth.resync_offset == left_offset v

-- one more event, up to the last count of a valid superblock
abbrev pub raised : ℕ → ℕ
raised events = if nat_lt events (2 ^ 63 - 1) then events + 1 else events

-- the truth with one more event, and no row left to resync but those of the array
abbrev pub settled_truth : View → Super
settled_truth v = record v.truth { events = raised v.truth.events; resync_offset = left_offset v }

-- the array once that is its truth; a mark that its own writes made is taken back
abbrev pub settled : View → View
settled v = record v { truth = settled_truth v; marked = false }

-- rows are left to resync from a sector of the members' data on, with one more event
abbrev pub resynced_to : View → ℕ → Change
resynced_to v offset = record { truth = record v.truth { events = raised v.truth.events; resync_offset = offset }; place = None; to = 0 }

-- the member of a place is rebuilt up to a sector of its data
abbrev pub rebuilt_by : View → ℕ → ℕ → Change
rebuilt_by v place to = record { truth = v.truth; place = Some place; to = to }

-- ---- superblocks

-- feature bits 4 of a reshape and 2 of a rebuild
abbrev pub features : Super → Seat → ℕ
features t Whole = if is_reshaping t then 4 else 0
features t Missing = if is_reshaping t then 4 else 0
features t (Rebuilding to) = (if is_reshaping t then 4 else 0) + 2

abbrev pub rebuilt_to : Seat → ℕ
rebuilt_to Whole = 0
rebuilt_to Missing = 0
rebuilt_to (Rebuilding to) = to

-- the superblock of a member: the array's fields are those of the truth
abbrev pub member_super : Super → Slot → Super
member_super t s = record t {
  feature_map = features t s.seat;
  recovery_offset = rebuilt_to s.seat;
  dev_number = s.place;
  device_id = s.device;
}

-- The sector of a superblock: its fields are read back from it, and the bytes that no field takes are zeros. So each byte is known.
pub record IsSectorOf (t : Super) (sector : List ℕ) : Type 0 where
  pub sized : length sector ≡ 512
  pub reads : super_of sector ≡ Some t
  pub zeros : LeavesZeros sector
