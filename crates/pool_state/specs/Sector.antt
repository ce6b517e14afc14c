-- The sector of a state.
use Rattle.std.specs.Prelude.{ℕ, zero, suc, ◌+◌, ◌-◌, ◌*◌, List, map, codes, replicate, Bool, ◌==◌, ◌&&◌, ◌||◌, not, nat_le, if◌then◌else◌, Result, Ok, Err}
use Rattle.std.specs.List.{list_all, range_with_len}
use Rattle.byteorder.specs.Endian.{little_number}
use Rattle.shr_base.specs.Blocks.{bytes_at, number_at, put_at}
use Rattle.shr_base.specs.Crc.{crc32_of}
use Rattle.pool_state.specs.declared.contents.Copied.{Copied}
use Rattle.pool_state.specs.declared.contents.Drive.{Drive}
use Rattle.pool_state.specs.declared.contents.Plan.{Plan}
use Rattle.pool_state.specs.declared.contents.Plan.TheVariants.{Nothing, Add, Replace}
use Rattle.pool_state.specs.declared.contents.StateFault.{StateFault}
use Rattle.pool_state.specs.declared.contents.StateFault.TheVariants.{NotState, BadSum, BadField}
use Rattle.pool_state.specs.Valid.{is_valid}

-- how many drives the list has
abbrev pub count_of : List ℕ → ℕ
count_of block = number_at 44 1 block

-- where the drive of a place stands
abbrev pub drive_offset : ℕ → ℕ
drive_offset place = 64 + 28 * place

-- the flags of a drive: 1 for a missing one
abbrev pub flags_at : ℕ → List ℕ → ℕ
flags_at place block = number_at (drive_offset place + 24) 4 block

unfoldable pub drive_at : ℕ → List ℕ → Drive
drive_at place block = record {
  id = record { 0 = bytes_at (drive_offset place) 16 block };
  units = number_at (drive_offset place + 16) 8 block;
  missing = flags_at place block == 1;
}

-- a plan by its kind, 0 for nothing, 1 for a new drive and 2 for one that replaces another
abbrev pub plan_of : ℕ → ℕ → Plan
plan_of zero place = Nothing
plan_of (suc zero) place = Add place
plan_of (suc (suc kind)) place = Replace place

-- the layout: each part by its first byte and its width
unfoldable pub copied_of : List ℕ → Copied
copied_of block = record {
  state = record {
    pool = record { 0 = bytes_at 16 16 block };
    epoch = number_at 32 8 block;
    extent = number_at 40 4 block;
    drives = record { items = map (λ place. drive_at place block) (range_with_len 0 (count_of block)) };
    plan = plan_of (number_at 46 1 block) (number_at 47 1 block);
    made = number_at 48 1 block;
    joined = number_at 49 1 block;
    serial = number_at 56 4 block;
  };
  own = number_at 45 1 block;
}

abbrev pub is_zero : List ℕ → Bool
is_zero bytes = list_all (λ byte. byte == 0) bytes

-- a kind from 0 to 2, and place 0 with kind 0
abbrev pub is_plan : ℕ → ℕ → Bool
is_plan kind place = nat_le kind 2 && (not (kind == 0) || place == 0)

-- zeros in the bytes that no part takes, those behind the last drive too
unfoldable pub has_zeros : List ℕ → Bool
has_zeros block =
    is_zero (bytes_at 50 6 block)
    && (is_zero (bytes_at 60 4 block) && is_zero (bytes_at (drive_offset (count_of block)) (28 * (16 - count_of block)) block))

-- flags that are 0 or 1
abbrev pub has_flags : ℕ → List ℕ → Bool
has_flags count block = list_all (λ place. nat_le (flags_at place block) 1) (range_with_len 0 count)

-- whether each part is written as parts of its kind are, in a list of at most 16 drives
unfoldable pub is_canonical : List ℕ → Bool
is_canonical block =
    nat_le (count_of block) 16
    && (has_zeros block && (is_plan (number_at 46 1 block) (number_at 47 1 block) && has_flags (count_of block) block))

-- the name and the version
abbrev pub is_state : List ℕ → Bool
is_state block = (number_at 0 8 block == little_number 8 (codes "SHRPOOL1")) && (number_at 8 4 block == 1)

-- the CRC-32 of the sector with zeros for the sum itself
unfoldable pub sum_of : List ℕ → ℕ
sum_of block = crc32_of (put_at 12 4 (replicate 4 0) block)

abbrev pub has_right_sum : List ℕ → Bool
has_right_sum block = number_at 12 4 block == sum_of block

abbrev pub is_well_formed : List ℕ → Bool
is_well_formed block = is_canonical block && is_valid (copied_of block).state (copied_of block).own

-- what a sector says, or its first fault
abbrev pub decoded : List ℕ → Result Copied StateFault
decoded block =
    if not (is_state block) then Err NotState
    else if not (has_right_sum block) then Err BadSum
    else if not (is_well_formed block) then Err BadField
    else Ok (copied_of block)
