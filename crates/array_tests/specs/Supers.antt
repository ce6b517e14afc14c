-- The superblocks that the tests' arrays are opened by.
use Rattle.std.specs.Prelude.{ℕ, pos, ◌-◌, ◌^◌, Bool, if◌then◌else◌, List, ◌++◌, replicate}
use Rattle.md_super.specs.declared.superblock.Super.{Super}

-- of a mirror or of RAID-5, whose places begin with these roles and have none after them
abbrev pub whole_super : Bool → ℕ → List ℕ → Super
whole_super mirror members first = record {
  feature_map = 0;
  set_id = record { 0 = replicate 16 1 };
  set_name = replicate 32 0;
  ctime = 0;
  level = if mirror then pos 1 else pos 5;
  layout = if mirror then 0 else 2;
  size = 5120;
  chunk = if mirror then 0 else 128;
  raid_disks = members;
  new_level = pos 0;
  reshape_position = 0;
  delta_disks = pos 0;
  new_layout = 0;
  new_chunk = 0;
  data_offset = 2048;
  data_size = 5120;
  super_offset = 8;
  recovery_offset = 0;
  dev_number = 0;
  device_id = record { 0 = replicate 16 2 };
  utime = 0;
  events = 7;
  resync_offset = 2 ^ 64 - 1;
  roles = record { items = first ++ replicate 112 0xffff };
}
