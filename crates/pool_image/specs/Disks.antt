-- What each disk says of the pool, and which disk is which place's drive.
use Rattle.std.specs.Prelude.{ℕ, false, ◌==◌, nat_lt, bytes_eq, if◌then◌else◌, List, map, position, slice_get, Option, Some, None, option_map}
use Rattle.std.specs.Option.{option_and_then, option_map_or}
use Rattle.std.specs.Result.{result_ok}
use Rattle.std.specs.List.{range_with_len}
use Rattle.rack.specs.Seen.{Image, RackView}
use Rattle.gpt_table.specs.declared.Table.{Table}
use Rattle.gpt_table.specs.Changes.{the_table}
use Rattle.pool_state.specs.declared.contents.Copied.{Copied}
use Rattle.pool_state.specs.declared.contents.State.{State}
use Rattle.pool_state.specs.Sector.{decoded}
use Rattle.array_image.specs.Foremost.{foremost}
use Rattle.array_image.specs.Places.{state_sector}
use Rattle.array_image.specs.States.{epoch_of, is_current, id_of}

-- the disks of a rack: how many, and how many sectors each has
pub record Disks : Type 0 where
  pub count : ℕ
  pub sectors : ℕ → ℕ

abbrev pub disks_of : RackView → Disks
disks_of x = record { count = x.disks; sectors = x.sectors }

abbrev pub all_disks : Disks → List ℕ
all_disks disks = range_with_len 0 disks.count

-- ---- what a disk says

-- its copy of a state (docs/FORMATS.md, 'State sector'), whatever its table says, and its table
pub record Identity : Type 0 where
  pub copied : Option Copied
  pub table : Option Table

-- what the disks say
abbrev pub Identities : Type 0
Identities = ℕ → Identity

abbrev pub identities_of : Disks → Image → Identities
identities_of disks c = λ d. record {
  copied = if nat_lt state_sector (disks.sectors d) then result_ok (decoded (c d state_sector)) else None;
  table = the_table (disks.sectors d) (c d);
}

-- the state of highest epoch, of equal ones that of the lowest disk
abbrev pub newest : Disks → Identities → Option State
newest disks identities = option_map (λ copy. copy.state) (foremost epoch_of (map (λ d. (identities d).copied) (all_disks disks)))

-- ---- seats

-- the id of the drive that a disk is: that which its state names, or without a state that of its table
abbrev pub id_by : Option Table → Option Copied → Option (List ℕ)
id_by table None = option_map (λ t. t.disk_id.0) table
id_by table (Some copy) = id_of copy.state copy.own

-- the place for which a disk stands: of several with its id the lowest
abbrev pub stands_for : State → Identity → Option ℕ
stands_for s identity = option_and_then (λ id. position (λ drive. bytes_eq drive.id.0 id) s.drives.items) (id_by identity.table identity.copied)

-- a disk that stands for a place, and the epoch of its state; one without a state has the lowest
pub record Candidate : Type 0 where
  pub disk : ℕ
  pub epoch : ℕ

abbrev pub candidate : State → Identities → ℕ → ℕ → Option Candidate
candidate s identities place d =
    if option_map_or (λ p. p == place) (stands_for s (identities d)) false
    then Some (record { disk = d; epoch = option_map_or epoch_of (identities d).copied 0 })
    else None

-- which disk each place has
abbrev pub Seats : Type 0
Seats = ℕ → Option ℕ

-- the disk that is taken for a current place: that of highest epoch, of equal ones the lowest. No other place has one.
unfoldable pub seat_of : State → Disks → Identities → Seats
seat_of s disks identities place =
    if is_current s place
    then option_map (λ k. k.disk) (foremost (λ k. k.epoch) (map (candidate s identities place) (all_disks disks)))
    else None
