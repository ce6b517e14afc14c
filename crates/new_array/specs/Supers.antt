-- The superblocks of a new array's members.
use Rattle.std.specs.Prelude.{ℕ, ℤ, Bool, pos, ◌-◌, ◌++◌, ◌==◌, if◌then◌else◌, List, codes, decimal, replicate, map, length, position}
use Rattle.std.specs.Option.{option_map_or}
use Rattle.std.specs.List.{range_with_len, list_any}
use Rattle.md_super.specs.declared.superblock.Super.{Super}
use Rattle.shr_base.specs.declared.Id.{Id}
use Rattle.array_image.specs.Places.{array_id, member_id, data_sector, super_sector}

-- whether a place is one of these
abbrev pub has : List ℕ → ℕ → Bool
has places place = list_any (λ p. p == place) places

-- members have positions in order of place
abbrev pub role_of : List ℕ → ℕ → ℕ
role_of members place = option_map_or (λ k. k) (position (λ p. p == place) members) 0xffff

abbrev pub new_roles : List ℕ → List ℕ
new_roles members = map (role_of members) (range_with_len 0 128)

-- `shr:` and the array's number, filled with zeros
abbrev pub set_name : ℕ → List ℕ
set_name number = (codes "shr:" ++ decimal number) ++ replicate (28 - length (decimal number)) 0

-- of two members a mirror, of more RAID-5, left-symmetric, in chunks of 128 sectors
abbrev pub level_of : ℕ → ℤ
level_of members = pos (if members == 2 then 1 else 5)

abbrev pub layout_of : ℕ → ℕ
layout_of members = if members == 2 then 0 else 2

abbrev pub chunk_of : ℕ → ℕ
chunk_of members = if members == 2 then 0 else 128

-- the superblock of a place's member of an array of so many sectors of data, with the rows from an offset on left to resync
abbrev pub new_super : (pool drive : Id) → List ℕ → (number place size offset seconds : ℕ) → Super
new_super pool drive members number place size offset seconds = record {
  feature_map = 0;
  set_id = record { 0 = array_id pool.0 number };
  set_name = set_name number;
  ctime = seconds;
  level = level_of (length members);
  layout = layout_of (length members);
  size = size;
  chunk = chunk_of (length members);
  raid_disks = length members;
  new_level = pos 0;
  reshape_position = 0;
  delta_disks = pos 0;
  new_layout = 0;
  new_chunk = 0;
  data_offset = data_sector;
  data_size = size;
  super_offset = super_sector;
  recovery_offset = 0;
  dev_number = place;
  device_id = record { 0 = member_id drive.0 number };
  utime = seconds;
  events = 1;
  resync_offset = offset;
  roles = record { items = new_roles members };
}
