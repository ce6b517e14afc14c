-- The superblocks of one array, as a pool has them.
use Rattle.std.specs.Prelude.{◌≡◌, ◌⊎◌, ℕ, pos, ◌-◌, ◌*◌, ◌/◌, ◌%◌, ◌<◌, ◌≤◌, ◌^◌, Bool, true, false, ◌==◌, ◌||◌, nat_lt, bit_and, if◌then◌else◌, [], ◌++◌, length, codes, decimal, replicate, Some}
use Rattle.std.specs.List.{list_all}
use Rattle.rack.specs.Seen.{Image}
use Rattle.md_super.specs.declared.superblock.Super.{Super}
use Rattle.pool_state.specs.declared.contents.State.{State}
use Rattle.array_image.specs.States.{is_current}
use Rattle.array_image.specs.Supers.{is_rebuilding, is_reshaping, is_unclean, new_row, named_places, super_in}
use Rattle.array_image.specs.Arrays.{Shape, shape_in}
use Rattle.array_image.specs.Even.{AreEven}

-- a role is a position, or that of a spare
abbrev pub are_written_roles : Super → Bool
are_written_roles t = list_all (λ role. nat_lt role 0xfffe || (role == 0xffff)) t.roles.items

-- the fields that the pool writes
pub record IsWrittenSuper (n : ℕ) (t : Super) : Type 0 where
  pub name : t.set_name ≡ (codes "shr:" ++ decimal n) ++ replicate (28 - length (decimal n)) 0
  pub times : t.utime ≡ t.ctime
  pub roles : are_written_roles t ≡ true
  pub step : t.delta_disks ≡ pos (if is_reshaping t then 1 else 0)
  pub next_level : t.new_level ≡ pos (if is_reshaping t then 5 else 0)
  pub next_layout : t.new_layout ≡ (if is_reshaping t then 2 else 0)
  pub next_chunk : t.new_chunk ≡ (if is_reshaping t then 128 else 0)
  -- whole rows of the new geometry, and none past the members' data
  pub position : t.reshape_position % new_row t ≡ 0
  pub last_position : t.reshape_position ≤ (t.raid_disks - 1) * t.size
  pub no_position : is_reshaping t ≡ false → t.reshape_position ≡ 0
  pub resync : (t.resync_offset ≡ 2 ^ 64 - 1) ⊎ (t.resync_offset % 128 ≡ 0)

-- the array's fields of a superblock: all but those of its member, which are `dev_number`, `device_id`, `recovery_offset` and
-- feature bit 2
abbrev pub array_fields : Super → Super
array_fields t =
    record t { dev_number = 0; device_id = record { 0 = [] }; recovery_offset = 0; feature_map = bit_and t.feature_map 0xfffffffd }

-- the first row left to resync, by the truth
abbrev pub first_unsynced : Super → ℕ
first_unsynced t = if is_unclean t then t.resync_offset / 128 else t.size / 128

-- the superblocks of one array agree, and its rows
pub record IsSoundArray (s : State) (c : Image) (n : ℕ) (t : Super) : Type 0 where
  pub two : 2 ≤ length (named_places t)
  pub written : IsWrittenSuper n t
  pub same :
      (p q : ℕ) (u v : Super) → is_current s p ≡ true → is_current s q ≡ true
      → super_in s c n p ≡ Some u → super_in s c n q ≡ Some v → u.events ≡ v.events → array_fields u ≡ array_fields v
  pub rebuilt :
      (p : ℕ) (u : Super) → is_current s p ≡ true → super_in s c n p ≡ Some u → is_rebuilding u ≡ true
      → (u.recovery_offset % 128 ≡ 0) × (u.recovery_offset < t.size)
  -- in an array that isn't young, the rows that aren't left to resync agree
  pub even : n < s.joined → (shape : Shape) → shape_in s c n ≡ Some shape → AreEven shape n (first_unsynced t) c
