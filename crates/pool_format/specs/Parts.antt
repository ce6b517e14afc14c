-- The parts of a new pool: its state, the tables of its drives and the superblocks of its members.
use Rattle.std.specs.Prelude.{ℕ, ◌+◌, ◌-◌, ◌^◌, if◌then◌else◌, List, [], ◌∷◌, map, length, slice_index, false}
use Rattle.std.specs.List.{range_with_len}
use Rattle.gpt_table.specs.declared.Entry.{Entry}
use Rattle.gpt_table.specs.declared.Table.{Table}
use Rattle.md_super.specs.declared.superblock.Super.{Super}
use Rattle.pool_state.specs.declared.contents.Drive.{Drive}
use Rattle.pool_state.specs.declared.contents.Plan.TheVariants.{Nothing}
use Rattle.pool_state.specs.declared.contents.State.{State}
use Rattle.shr_base.specs.Ids.{name_based, child_name}
use Rattle.array_image.specs.Places.{drive_id, log_kind, raid_kind, state_sector, log_sectors, data_sector}
use Rattle.new_array.specs.Supers.{new_super as new_super_of}
use Rattle.pool_format.specs.declared.Birth.{Birth}
use Rattle.pool_format.specs.declared.planning.NewArray.{NewArray}
use Rattle.pool_format.specs.declared.planning.NewPool.{NewPool}
use Rattle.pool_format.specs.Plan.{has}

-- ---- the state

-- the drive of a place
abbrev pub new_drive : Birth → ℕ → ℕ → Drive
new_drive birth place units = record { id = record { 0 = drive_id birth.pool place }; units = units; missing = false }

-- each drive has the serial of its place
abbrev pub new_drives : Birth → List ℕ → List Drive
new_drives birth units = map (λ place. new_drive birth place (slice_index units place)) (range_with_len 0 (length units))

-- the state: all drives, and an array for each layer, which is ready
abbrev pub new_state : NewPool → Birth → State
new_state plan birth = record {
  pool = record { 0 = birth.pool };
  epoch = 1;
  extent = plan.extent;
  drives = record { items = new_drives birth plan.units.items };
  plan = Nothing;
  made = length plan.arrays.items;
  joined = length plan.arrays.items;
  serial = length plan.units.items;
}

-- ---- tables

-- the slice of a drive by its number
abbrev pub entry_of : List ℕ → ℕ → List ℕ → ℕ → ℕ → Entry
entry_of drive slice kind first sectors = record {
  number = slice + 1;
  slice = record {
    kind = record { 0 = kind };
    id = record { 0 = name_based drive (child_name 4 slice 0) };
    first = first;
    last = first + sectors - 1;
  };
}

-- the slices of those arrays of which a place is a member, the first one of this number
abbrev pub entries_from : List ℕ → ℕ → ℕ → List NewArray → List Entry
entries_from drive place number [] = []
entries_from drive place number (a ∷ others) =
    if has a.members.items place
    then entry_of drive (number + 1) raid_kind a.first (a.size + data_sector) ∷ entries_from drive place (number + 1) others
    else entries_from drive place (number + 1) others

-- the log slice and those
abbrev pub entries_of : List ℕ → ℕ → List NewArray → List Entry
entries_of drive place arrays = entry_of drive 0 log_kind state_sector log_sectors ∷ entries_from drive place 0 arrays

-- the table of a place's drive, on a disk of so many sectors
abbrev pub new_table : NewPool → Birth → ℕ → ℕ → Table
new_table plan birth place sectors =
    let drive = drive_id birth.pool place in
    record {
      disk_id = record { 0 = drive };
      sectors = sectors;
      entries = record { items = entries_of drive place plan.arrays.items };
    }

-- ---- superblocks

-- no rows are left to resync
abbrev pub all_rows : ℕ
all_rows = 2 ^ 64 - 1

-- the superblock of a place's member of an array in which each row agrees
abbrev pub new_super : Birth → NewArray → ℕ → ℕ → Super
new_super birth a number place =
    new_super_of (record { 0 = birth.pool }) (record { 0 = drive_id birth.pool place }) a.members.items number place a.size all_rows birth.seconds
