-- Where the fields of a superblock stand (Linux md, struct mdp_superblock_1).
use Rattle.std.specs.Prelude.{◌≡◌, ℕ, ◌+◌, ◌*◌, List, take, replicate, ◌==◌, ◌&&◌, not, nat_lt, Bool, if◌then◌else◌, Result, Ok, Err}
use Rattle.shr_base.specs.Blocks.{bytes_at, number_at, signed_at, numbers_at, put_at}
use Rattle.shr_base.specs.Sum.{md_sum_of}
use Rattle.md_super.specs.declared.superblock.Super.{Super}
use Rattle.md_super.specs.declared.superblock.SuperFault.{SuperFault}
use Rattle.md_super.specs.declared.superblock.SuperFault.TheVariants.{NotMd, TooLong, BadSum}

-- how many roles stand in the block
abbrev pub max_dev : List ℕ → ℕ
max_dev block = number_at 220 4 block

-- the layout: each field by its first byte, and its width or its kind
unfoldable pub fields_of : List ℕ → Super
fields_of block = record {
  feature_map = number_at 8 4 block;
  set_id = record { 0 = bytes_at 16 16 block };
  set_name = bytes_at 32 32 block;
  ctime = number_at 64 8 block;
  level = signed_at 72 block;
  layout = number_at 76 4 block;
  size = number_at 80 8 block;
  chunk = number_at 88 4 block;
  raid_disks = number_at 92 4 block;
  new_level = signed_at 100 block;
  reshape_position = number_at 104 8 block;
  delta_disks = signed_at 112 block;
  new_layout = number_at 116 4 block;
  new_chunk = number_at 120 4 block;
  data_offset = number_at 128 8 block;
  data_size = number_at 136 8 block;
  super_offset = number_at 144 8 block;
  recovery_offset = number_at 152 8 block;
  dev_number = number_at 160 4 block;
  device_id = record { 0 = bytes_at 168 16 block };
  utime = number_at 192 8 block;
  events = number_at 200 8 block;
  resync_offset = number_at 208 8 block;
  roles = record { items = numbers_at 256 2 (max_dev block) block };
}

-- whether the magic number and the major version are those of md
abbrev pub is_md : List ℕ → Bool
is_md block = (number_at 0 4 block == 0xa92b4efc) && (number_at 4 4 block == 1)

-- the sum of a superblock (Linux md, calc_sb_1_csum): that of its fields and roles, its own field as zeros
unfoldable pub sum_of : List ℕ → ℕ
sum_of block = md_sum_of (take (256 + 2 * max_dev block) (put_at 216 4 (replicate 4 0) block))

abbrev pub has_right_sum : List ℕ → Bool
has_right_sum block = number_at 216 4 block == sum_of block

-- what a block says, or its first fault
abbrev pub decoded : List ℕ → Result Super SuperFault
decoded block =
    if not (is_md block) then Err NotMd
    else if nat_lt 384 (max_dev block) then Err TooLong
    else if not (has_right_sum block) then Err BadSum
    else Ok (fields_of block)

-- the bytes that no field takes, in the block of a superblock of 128 roles
pub record LeavesZeros (block : List ℕ) : Type 0 where
  pub behind_feature_map : bytes_at 12 4 block ≡ replicate 4 0
  pub behind_raid_disks : bytes_at 96 4 block ≡ replicate 4 0
  pub behind_new_chunk : bytes_at 124 4 block ≡ replicate 4 0
  pub behind_dev_number : bytes_at 164 4 block ≡ replicate 4 0
  pub behind_device_id : bytes_at 184 8 block ≡ replicate 8 0
  pub behind_max_dev : bytes_at 224 32 block ≡ replicate 32 0
