-- The members of an array, by position.
use Rattle.std.specs.Prelude.{ℕ, List, map, unwrap_or}
use Rattle.std.specs.List.{range_with_len, zip}
use Rattle.shr_base.specs.declared.Id.{Id}
use Rattle.md_super.specs.declared.superblock.Super.{Super}
use Rattle.array_image.specs.Arrays.{place_with}
use Rattle.array_model.specs.declared.Seat.{Seat}
use Rattle.array_model.specs.View.{View}
use Rattle.array_core.specs.declared.slots.Slot.{Slot}

-- the place that a superblock's roles give to a position, and 16 where they give none
abbrev pub place_by : Super → ℕ → ℕ
place_by t n = unwrap_or (place_with t.roles.items n) 16

-- the places of its positions, in order
abbrev pub places_by : Super → List ℕ
places_by t = map (place_by t) (range_with_len 0 t.raid_disks)

abbrev pub slot_with : ℕ × (Seat × Id) → Slot
slot_with m = record { place = m.0; seat = m.1.0; device = m.1.1 }

-- the members of an array, by position
abbrev pub slots_of : View → List Slot
slots_of v = map slot_with (zip (places_by v.truth) (zip v.seats v.devices))
