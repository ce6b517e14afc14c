-- The blank array, which no pool has.
use Rattle.std.specs.Prelude.{ℕ, ◌-◌, ◌^◌, pos, List, ◌∷◌, replicate}
use Rattle.md_super.specs.declared.superblock.Super.{Super}
use Rattle.array_model.specs.declared.Seat.TheVariants.{Missing}
use Rattle.array_core.specs.declared.slots.Slot.{Slot}

abbrev pub blank_roles : List ℕ
blank_roles = 0 ∷ 1 ∷ replicate 126 0xffff

abbrev pub blank_truth : Super
blank_truth = record {
  feature_map = 0;
  set_id = record { 0 = replicate 16 0 };
  set_name = replicate 32 0;
  ctime = 0;
  level = pos 1;
  layout = 0;
  size = 2176;
  chunk = 0;
  raid_disks = 2;
  new_level = pos 0;
  reshape_position = 0;
  delta_disks = pos 0;
  new_layout = 0;
  new_chunk = 0;
  data_offset = 2048;
  data_size = 2176;
  super_offset = 8;
  recovery_offset = 0;
  dev_number = 0;
  device_id = record { 0 = replicate 16 0 };
  utime = 0;
  events = 1;
  resync_offset = 2 ^ 64 - 1;
  roles = record { items = blank_roles };
}

abbrev pub blank_slot : ℕ → Slot
blank_slot place = record { place = place; seat = Missing; device = record { 0 = replicate 16 0 } }
