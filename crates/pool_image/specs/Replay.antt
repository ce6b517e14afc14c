-- What the drives hold once the pending record is replayed.
use Rattle.std.specs.Prelude.{ℕ, zero, suc, ◌+◌, ◌-◌, Bool, false, ◌==◌, ◌&&◌, nat_le, nat_lt, bytes_eq, if◌then◌else◌, List, [], ◌∷◌, ◌++◌, map, find, slice_get, Option, Some, None, option_map, unwrap_or}
use Rattle.std.specs.Option.{option_and_then, option_map_or}
use Rattle.std.specs.Result.{result_ok}
use Rattle.std.specs.List.{list_any, filter_map}
use Rattle.rack.specs.Seen.{Image}
use Rattle.gpt_table.specs.declared.Table.{Table}
use Rattle.gpt_table.specs.declared.Entry.{Entry}
use Rattle.pool_state.specs.declared.contents.Copied.{Copied}
use Rattle.pool_state.specs.declared.contents.State.{State}
use Rattle.pool_state.specs.Sector.{decoded}
use Rattle.array_image.specs.Foremost.{foremost}
use Rattle.array_image.specs.Places.{place_of, slice_of, state_sector, log_sectors, arrays_first, raid_kind}
use Rattle.rack.specs.Targets.{Target, put}
use Rattle.array_image.specs.Record.{pending}
use Rattle.array_image.specs.States.{epoch_of, current_places}
use Rattle.pool_image.specs.Disks.{Disks, Identities, Seats, identities_of, newest, seat_of}

-- ---- slices by a disk's table (docs/FORMATS.md, 'Commit log')

-- where a slice lies on its disk
pub record Extent : Type 0 where
  pub first : ℕ
  pub sectors : ℕ

-- two extents have a sector in common
abbrev pub share : Extent → Extent → Bool
share a b = nat_lt a.first (b.first + b.sectors) && nat_lt b.first (a.first + a.sectors)

-- the extent of an entry of the kind of members' slices, in the part of the disk that is theirs
abbrev pub slice_entry : ℕ → Entry → Option Extent
slice_entry sectors e =
    if bytes_eq e.slice.kind.0 raid_kind && (nat_le arrays_first e.slice.first && nat_lt (e.slice.last + 33) sectors)
    then Some (record { first = e.slice.first; sectors = e.slice.last + 1 - e.slice.first })
    else None

-- that of array n's slice
abbrev pub entry_extent : ℕ → Table → ℕ → Option Extent
entry_extent sectors table n = option_and_then (slice_entry sectors) (find (λ e. e.number == n + 2) table.entries.items)

abbrev pub shares_any : List (Option Extent) → Extent → Bool
shares_any lower e = list_any (λ other. option_map_or (share e) other false) lower

abbrev pub free_of : List (Option Extent) → Option Extent → Option Extent
free_of lower extent = option_and_then (λ e. if shares_any lower e then None else Some e) extent

-- the slices of the first arrays: one that shares a sector with a lower one isn't there
unfoldable pub extents_below : ℕ → Table → ℕ → List (Option Extent)
extents_below sectors table zero = []
extents_below sectors table (suc n) =
    let lower = extents_below sectors table n in
    lower ++ free_of lower (entry_extent sectors table n) ∷ []

-- the log slice, where a disk has all of it
abbrev pub log_extent : ℕ → Option Extent
log_extent sectors = if nat_le arrays_first sectors then Some (record { first = state_sector; sectors = log_sectors }) else None

-- a slice of a disk, by its number
unfoldable pub extent_by : ℕ → Option Table → ℕ → Option Extent
extent_by sectors table zero = log_extent sectors
extent_by sectors table (suc n) =
    option_and_then (λ t. option_and_then (λ e. e) (slice_get (extents_below sectors t (n + 1)) n)) table

-- ---- what is pending

-- the log slices of the drives, by their seats
abbrev pub logs_of : Disks → Seats → Image → Image
logs_of disks seats c k s =
    if (slice_of k == 0) && nat_lt s log_sectors
    then option_map_or (λ d. option_map_or (λ e. c d (e.first + s)) (log_extent (disks.sectors d)) []) (seats (place_of k)) []
    else []

-- a target that is a state's sector, and the copy that it brings
abbrev pub brought : Target → Option Copied
brought t = if (slice_of t.disk == 0) && (t.sector == 0) then result_ok (decoded t.bytes) else None

-- the state of highest epoch that a record brings
abbrev pub brought_state : List Target → Option State
brought_state xs = option_map (λ copy. copy.state) (foremost epoch_of (map brought xs))

-- ---- the replay

-- a record's target as a sector of a disk. It has none where its place has no disk, the slice isn't there, or ends before it.
abbrev pub landed : Disks → Identities → Seats → Target → Option Target
landed disks identities seats t =
    option_and_then
    (λ d. option_and_then
    (λ e. if nat_lt t.sector e.sectors then Some (record { disk = d; sector = e.first + t.sector; bytes = t.bytes }) else None)
    (extent_by (disks.sectors d) (identities d).table (slice_of t.disk)))
    (seats (place_of t.disk))

-- What the disks hold as they stand: the state, who is seated by it, their log slices, and the record that is pending there.
pub record Standing : Type 0 where
  pub identities : Identities
  pub state : State
  pub logs : Image
  pub targets : List Target

abbrev pub standing_by : Disks → Image → State → Standing
standing_by disks c s =
    let identities = identities_of disks c in
    let logs = logs_of disks (seat_of s disks identities) c in
    record { identities = identities; state = s; logs = logs; targets = pending (current_places s) logs }

-- none where no disk has a state
unfoldable pub standing : Disks → Image → Option Standing
standing disks c = option_map (standing_by disks c) (newest disks (identities_of disks c))

-- What the disks hold once its targets are written. Their places are those of the state that the record brings, if it brings one;
-- where they lie, the disks' tables say.
abbrev pub written : Disks → Standing → Image → Image
written disks x c =
    put disks.sectors
    (filter_map (landed disks x.identities (seat_of (unwrap_or (brought_state x.targets) x.state) disks x.identities)) x.targets)
    c
