-- What an array knows of its members, and how that changes.
use Rattle.std.specs.Prelude.{ℕ, ◌-◌, ◌%◌, Bool, nat_lt, ◌==◌, ◌&&◌, ◌||◌, false, if◌then◌else◌, List, [], ◌∷◌, map, filter, find, Option, option_map, unwrap_or}
use Rattle.std.specs.List.{list_any, range_with_len}
use Rattle.shr_base.specs.declared.Id.{Id}
use Rattle.md_super.specs.declared.superblock.Super.{Super}
use Rattle.md_super.specs.Profile.{is_mirror}
use Rattle.array_image.specs.Places.{member_id}
use Rattle.array_image.specs.Supers.{is_reshaping}
use Rattle.array_model.specs.declared.Seat.{Seat}
use Rattle.array_model.specs.declared.Seat.TheVariants.{Whole, Missing, Rebuilding}
use Rattle.array_model.specs.View.{View, seat_unless}
use Rattle.array_core.specs.declared.slots.Slot.{Slot}
use Rattle.array_core.specs.Slots.{slots_of}

-- a list has this place
abbrev pub names : List ℕ → ℕ → Bool
names places place = list_any (λ p. p == place) places

-- the member on a place
abbrev pub slot_at : List Slot → ℕ → Option Slot
slot_at slots place = find (λ s. s.place == place) slots

-- its seat
abbrev pub seat_of : View → ℕ → Option Seat
seat_of v place = option_map (λ s. s.seat) (slot_at (slots_of v) place)

-- how many members' data make the array's sectors
abbrev pub data_disks : Super → ℕ
data_disks t = if is_reshaping t then t.raid_disks - 2 else if is_mirror t then 1 else t.raid_disks - 1

-- the member with another seat, and another id if one is given, where its place is one of these
abbrev pub reseated : List ℕ → Seat → Option Id → Slot → Slot
reseated places seat device s = record {
  place = s.place;
  seat = if names places s.place then seat else s.seat;
  device = if names places s.place then unwrap_or device s.device else s.device;
}

-- the members of these places are missing
abbrev pub losing : List ℕ → View → View
losing places v = record v { seats = map (λ s. seat_unless (names places) s.place s.seat) (slots_of v) }

-- the member of a place is rebuilt from its start, with the id of a member on this drive
abbrev pub renewed : ℕ → Id → View → View
renewed place drive v = record v {
  seats = map (λ s. if names (place ∷ []) s.place then Rebuilding 0 else s.seat) (slots_of v);
  devices = map (λ s. if names (place ∷ []) s.place then record { 0 = member_id drive.0 v.number } else s.device) (slots_of v);
}

-- a rebuild that doesn't stand between two rows of a member's data begins again
abbrev pub restart : ℕ → Seat → Seat
restart size Whole = Whole
restart size Missing = Missing
restart size (Rebuilding to) = if (to % 128 == 0) && nat_lt to size then Rebuilding to else Rebuilding 0

abbrev pub restarted_slot : ℕ → Slot → Slot
restarted_slot size s = record { place = s.place; seat = restart size s.seat; device = s.device }

abbrev pub restarted : View → View
restarted v = record v { seats = map (restart v.truth.size) v.seats }

-- the places of both lists, in order and each once
abbrev pub joined : List ℕ → List ℕ → List ℕ
joined first second = filter (λ p. names first p || names second p) (range_with_len 0 16)

-- the members of these places are missing, and the places went
abbrev pub gone : List ℕ → View → View
gone places v = record v { seats = (losing places v).seats; went = joined v.went places }

-- nobody went
abbrev pub heeded : View → View
heeded v = record v { went = [] }

-- it is young no more
abbrev pub ready : View → View
ready v = record v { young = false }
