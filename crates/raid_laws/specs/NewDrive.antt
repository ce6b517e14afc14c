-- A new drive at a place: where its slices lie, its table, and what is written on it before it is one of the pool.
use Rattle.std.specs.Prelude.{◌≡◌, ◌≢◌, ◌⊎◌, ℕ, ◌+◌, ◌-◌, ◌<◌, ◌==◌, ◌&&◌, ◌||◌, not, nat_le, nat_lt, if◌then◌else◌, Bool, false, true, List, ◌∷◌, filter, is_some, length, map, replicate, slice_get, take, sum_by, Some, Result, OnOk, IfErr}
use Rattle.std.specs.Option.{option_map_or}
use Rattle.std.specs.List.{list_all, range_with_len}
use Rattle.rack.specs.Values.{IsSingle, MayLeave}
use Rattle.rack.specs.Seen.{RackView, IsLive, Rose}
use Rattle.rack.specs.Sequences.{WritesOnly}
use Rattle.rack.specs.declared.Gone.{Gone}
use Rattle.shr_base.specs.Ids.{name_based, child_name}
use Rattle.gpt_table.specs.declared.Entry.{Entry}
use Rattle.gpt_table.specs.declared.Table.{Table}
use Rattle.gpt_table.specs.declared.TableCopy.{TableCopy}
use Rattle.gpt_table.specs.Disk.{HoldsCopy, now_on}
use Rattle.gpt_table.specs.Format.{mbr_of}
use Rattle.gpt_table.specs.Plans.{IsInTable, IsOfTable}
use Rattle.slice_rack.specs.Slices.{Slices, seat_of as disk_at, place_of as place_on, first_of, sectors_of}
use Rattle.array_image.specs.Places.{arrays_first, data_sector, log_kind, log_sectors, raid_kind, slice_of, state_sector}
use Rattle.array_image.specs.Record.{gate_sector}
use Rattle.array_model.specs.View.{View}
use Rattle.log_laws.specs.Bytes.{first_gate}
use Rattle.array_core.specs.Seats.{seat_of}

-- ---- where its slices lie

-- the sectors of a slice of an array's member
abbrev pub slice_length : View → ℕ
slice_length u = u.truth.size + data_sector

-- where these slices begin, on each drive: behind the log slice, those of the arrays of lower numbers one after the other
abbrev pub first_in : List View → ℕ → ℕ
first_in arrays n = arrays_first + sum_by slice_length (take n arrays)

-- a place is a member of array n, and a disk of so many sectors reaches it: the slice ends before the backup of the table
abbrev pub joins : List View → (place sectors n : ℕ) → Bool
joins arrays place sectors n =
    option_map_or (λ u. is_some (seat_of u place) && nat_le (first_in arrays n + slice_length u + 33) sectors) (slice_get arrays n) false

-- the disk reaches each array that the place is a member of
abbrev pub ReachesAll : List View → (place sectors : ℕ) → Type 0
ReachesAll arrays place sectors = (n : ℕ) (u : View) → slice_get arrays n ≡ Some u → is_some (seat_of u place) ≡ true → joins arrays place sectors n ≡ true

-- a place is no member of array n, or the disk reaches it
abbrev pub is_reached : List View → (place sectors n : ℕ) → Bool
is_reached arrays place sectors n = option_map_or (λ u. not (is_some (seat_of u place))) (slice_get arrays n) true || joins arrays place sectors n

-- a disk of so many sectors has room for the log slice and the table, and reaches each array that the place is a member of
abbrev pub reaches_all : List View → (place sectors : ℕ) → Bool
reaches_all arrays place sectors = nat_le 10273 sectors && list_all (is_reached arrays place sectors) (range_with_len 0 (length arrays))

-- the length of the slice of array n
abbrev pub length_in : List View → ℕ → ℕ
length_in arrays n = option_map_or slice_length (slice_get arrays n) 0

-- how many sectors the slice of a number has on the place's disk
abbrev pub sectors_laid : List View → (place sectors slice : ℕ) → ℕ
sectors_laid arrays place sectors slice =
    if slice == 0 then log_sectors
    else if joins arrays place sectors (slice - 1) then length_in arrays (slice - 1) else 0

-- where it begins
abbrev pub first_laid : List View → ℕ → ℕ
first_laid arrays slice = if slice == 0 then state_sector else first_in arrays (slice - 1)

-- A place has got this disk, of so many sectors, and its slices; all other places are as before.
pub record SeatsDrive (arrays : List View) (place disk sectors : ℕ) (t u : Slices) : Type 0 where
  pub seats : (p : ℕ) → disk_at u p ≡ (if p == place then Some disk else disk_at t p)
  pub own : (d : ℕ) → place_on d ≡ place → sectors_of u d ≡ sectors_laid arrays place sectors (slice_of d)
  pub own_firsts : (d : ℕ) → place_on d ≡ place → 0 < sectors_of u d → first_of u d ≡ first_laid arrays (slice_of d)
  pub others : (d : ℕ) → place_on d ≢ place → sectors_of u d ≡ sectors_of t d
  pub firsts : (d : ℕ) → place_on d ≢ place → first_of u d ≡ first_of t d

-- ---- its table

-- the slice of a drive by its number
abbrev pub entry_of : List ℕ → ℕ → List ℕ → ℕ → ℕ → Entry
entry_of drive slice kind first sectors = record {
  number = slice + 1;
  slice = record {
    kind = record { 0 = kind };
    id = record { 0 = name_based drive (child_name 4 slice 0) };
    first = first;
    last = first + sectors - 1;
  };
}

-- that of its member of array n
abbrev pub member_entry : List ℕ → List View → ℕ → Entry
member_entry drive arrays n = entry_of drive (n + 1) raid_kind (first_in arrays n) (length_in arrays n)

-- those of its members of the first arrays
abbrev pub member_entries : List ℕ → List View → (place sectors many : ℕ) → List Entry
member_entries drive arrays place sectors many =
    map (member_entry drive arrays) (filter (joins arrays place sectors) (range_with_len 0 many))

-- the log slice, and those of its members
abbrev pub entries_of : List ℕ → List View → (place sectors many : ℕ) → List Entry
entries_of drive arrays place sectors many =
    entry_of drive 0 log_kind state_sector log_sectors ∷ member_entries drive arrays place sectors many

-- the table of a drive of this id
abbrev pub drive_table : List ℕ → List View → (place sectors many : ℕ) → Table
drive_table drive arrays place sectors many = record {
  disk_id = record { 0 = drive };
  sectors = sectors;
  entries = record { items = entries_of drive arrays place sectors many };
}

-- ---- what is written on it

-- where a drive has its gate: the second sector of its log slice
abbrev pub gate_at : ℕ
gate_at = state_sector + gate_sector

-- zeros, which say no copy of a state
abbrev pub no_state : List ℕ
no_state = replicate 512 0

-- zeros for the state's sector, the first gate, or what its table has in a sector
abbrev pub IsOfDrive : (disk : ℕ) → Table → ℕ → ℕ → List ℕ → Type 0
IsOfDrive disk table d s v =
    (d ≡ disk) × (((s ≡ state_sector) × (v ≡ no_state)) ⊎ (((s ≡ gate_at) × (v ≡ first_gate)) ⊎ IsInTable table s v))

-- The table, the cleared sector of the state and the first gate were written on a disk, durably, or its faults rose.
pub record LaysDrive (a b : RackView) (disk : ℕ) (table : Table) {X : Type 0} (result : Result X Gone) : Type 0 where
  pub only : WritesOnly a b (IsOfDrive disk table)
  pub gone : IfErr result (λ e. (e.disk ≡ disk) × Rose (a.faults disk) (b.faults disk))
  pub cleared : OnOk result (IsLive a b disk state_sector → (v : List ℕ) → MayLeave (b.held disk state_sector) v → v ≡ no_state)
  pub gate : OnOk result (IsLive a b disk gate_at → (v : List ℕ) → MayLeave (b.held disk gate_at) v → v ≡ first_gate)
  pub mbr : OnOk result (IsLive a b disk 0 → now_on b disk 0 ≡ mbr_of table.sectors)
  pub copies :
      OnOk result (((s : ℕ) → IsOfTable table.sectors s → IsLive a b disk s) → (copy : TableCopy) → HoldsCopy copy table (now_on b disk))
  pub durable : OnOk result ((s : ℕ) → IsLive a b disk s → IsSingle (b.held disk s))

-- ---- its slices, one after the other

-- all places but one are as before
pub record KeepsOthers (place : ℕ) (t u : Slices) : Type 0 where
  pub seats : (p : ℕ) → disk_at u p ≡ disk_at t p
  pub sectors : (d : ℕ) → place_on d ≢ place → sectors_of u d ≡ sectors_of t d
  pub firsts : (d : ℕ) → place_on d ≢ place → first_of u d ≡ first_of t d

-- the slices of a place's disk below a number are laid, and no others
pub record AreLaid (x : RackView) (arrays : List View) (place sectors many : ℕ) (t : Slices) : Type 0 where
  pub disk : ℕ
  pub seat : disk_at t place ≡ Some disk
  pub size : sectors ≡ x.sectors disk
  pub lengths : (d : ℕ) → place_on d ≡ place → sectors_of t d ≡ (if nat_lt (slice_of d) many then sectors_laid arrays place sectors (slice_of d) else 0)
  pub firsts : (d : ℕ) → place_on d ≡ place → slice_of d < many → 0 < sectors_of t d → first_of t d ≡ first_laid arrays (slice_of d)

-- a place has got this disk, and all others are as before
pub record SeatsFirst (place disk : ℕ) (t u : Slices) : Type 0 where
  pub seats : (p : ℕ) → disk_at u p ≡ (if p == place then Some disk else disk_at t p)
  pub sectors : (d : ℕ) → place_on d ≢ place → sectors_of u d ≡ sectors_of t d
  pub firsts : (d : ℕ) → place_on d ≢ place → first_of u d ≡ first_of t d
