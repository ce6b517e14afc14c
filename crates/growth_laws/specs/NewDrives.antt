-- A drive that joins a pool which grows: which arrays it reaches, its table, what is laid on it, and what its taking in does to the book.
use Rattle.std.specs.Prelude.{◌≡◌, ◌≢◌, ◌⊎◌, ℕ, ◌+◌, ◌-◌, ◌/◌, ◌<◌, ◌&&◌, nat_le, nat_lt, Bool, true, false, List, ◌∷◌, filter, is_none, is_some, length, map, slice_get, sum_by, take, Some, Result, OnOk, IfErr}
use Rattle.std.specs.Option.{option_map_or}
use Rattle.std.specs.List.{range_with_len}
use Rattle.rack.specs.declared.Gone.{Gone}
use Rattle.rack.specs.Values.{IsSingle, MayLeave}
use Rattle.rack.specs.Seen.{RackView, IsLive, Rose}
use Rattle.rack.specs.Sequences.{WritesOnly}
use Rattle.slice_rack.specs.Slices.{Slices}
use Rattle.slice_rack.specs.Runs.{IsSliced}
use Rattle.gpt_table.specs.declared.Entry.{Entry}
use Rattle.gpt_table.specs.declared.Table.{Table}
use Rattle.gpt_table.specs.declared.TableCopy.{TableCopy}
use Rattle.gpt_table.specs.Disk.{HoldsCopy, now_on}
use Rattle.gpt_table.specs.Format.{mbr_of}
use Rattle.gpt_table.specs.Plans.{IsOfTable}
use Rattle.pool_state.specs.declared.contents.Plan.{Plan}
use Rattle.pool_state.specs.declared.contents.Plan.TheVariants.{Nothing, Add, Replace}
use Rattle.pool_state.specs.declared.contents.State.{State}
use Rattle.array_image.specs.Places.{data_sector, log_kind, log_sectors, state_sector, super_sector}
use Rattle.array_image.specs.States.{is_current}
use Rattle.array_model.specs.View.{View}
use Rattle.log_laws.specs.Bytes.{first_gate}
use Rattle.array_core.specs.Seats.{seat_of}
use Rattle.raid_laws.specs.Enlisting.{HasLost, next_drive}
use Rattle.raid_laws.specs.Moves.{AreCaused, IsHeeded}
use Rattle.raid_laws.specs.NewDrive.{IsOfDrive, entry_of, first_in, gate_at, length_in, member_entry, no_state}
use Rattle.raid_laws.specs.Raid.{Raid}
use Rattle.growth_laws.specs.Losses.{LosesBook}
use Rattle.transition_laws.specs.Changes.{changed, enlists}
use Rattle.growth_laws.specs.Growing.{Turns}

-- ---- which arrays it reaches

-- the height of an array, in units of so many sectors
abbrev pub height : ℕ → View → ℕ
height extent u = (u.truth.size - data_sector) / extent

-- how many units the first arrays have together
abbrev pub top : ℕ → List View → ℕ → ℕ
top extent arrays many = sum_by (height extent) (take many arrays)

-- A drive of so many units reaches array n: it has all units up to the array's top. Where a pool isn't sound its slice may not fit all the same;
-- so the slice has to end before the backup of the disk's table, too.
abbrev pub reaches : ℕ → List View → (units sectors n : ℕ) → Bool
reaches extent arrays units sectors n =
    nat_lt n (length arrays) && (nat_le (top extent arrays (n + 1)) units && nat_le (first_in arrays n + length_in arrays n + 33) sectors)

-- it reaches array n, and its place is no member of it
abbrev pub may_join : ℕ → List View → (place units sectors n : ℕ) → Bool
may_join extent arrays place units sectors n =
    reaches extent arrays units sectors n && option_map_or (λ u. is_none (seat_of u place)) (slice_get arrays n) false

-- ---- its table

-- the log slice, and those of the first arrays that it reaches
abbrev pub reached_entries : List ℕ → List View → (ℕ → Bool) → ℕ → List Entry
reached_entries drive arrays reached many =
    entry_of drive 0 log_kind state_sector log_sectors ∷ map (member_entry drive arrays) (filter reached (range_with_len 0 many))

-- the table of a drive of this id, on a disk of so many sectors
abbrev pub reached_table : List ℕ → List View → (ℕ → Bool) → (sectors many : ℕ) → Table
reached_table drive arrays reached sectors many = record {
  disk_id = record { 0 = drive };
  sectors = sectors;
  entries = record { items = reached_entries drive arrays reached many };
}

-- the arrays that a drive reaches and its place is no member of, by the state before
abbrev pub joined_in : State → List View → (place units sectors n : ℕ) → Bool
joined_in s arrays place units sectors = may_join s.extent arrays place units sectors

-- the table of the pool's next drive
abbrev pub new_table : State → List View → (units sectors : ℕ) → Table
new_table s arrays units sectors = reached_table (next_drive s).0 arrays (reaches s.extent arrays units sectors) sectors (length arrays)

-- ---- what is laid on it

-- zeros, in the place of a superblock, where a slice of these arrays is to begin
abbrev pub IsCleared : List View → (ℕ → Bool) → (disk d s : ℕ) → List ℕ → Type 0
IsCleared arrays joined disk d s v = (d ≡ disk) × ((n : ℕ) × (joined n ≡ true) × (s ≡ first_in arrays n + super_sector)) × (v ≡ no_state)

-- these zeros, and what each new drive gets: its table, zeros for the state's sector and the first gate
abbrev pub IsLaid : List View → (ℕ → Bool) → (disk : ℕ) → Table → ℕ → ℕ → List ℕ → Type 0
IsLaid arrays joined disk table d s v = IsCleared arrays joined disk d s v ⊎ IsOfDrive disk table d s v

-- Zeros were written where superblocks of the first arrays would be, durably, or the disk's faults rose.
pub record ClearsSupers (a b : RackView) (disk : ℕ) (arrays : List View) (joined : ℕ → Bool) (many : ℕ) {X : Type 0} (result : Result X Gone) : Type 0 where
  pub only : WritesOnly a b (IsCleared arrays joined disk)
  pub gone : IfErr result (λ e. (e.disk ≡ disk) × Rose (a.faults disk) (b.faults disk))
  pub zeros :
      OnOk result
      ((n : ℕ) → n < many → joined n ≡ true → IsLive a b disk (first_in arrays n + super_sector) → (v : List ℕ)
      → MayLeave (b.held disk (first_in arrays n + super_sector)) v → v ≡ no_state)

-- All of it was written to a disk, durably, or the disk's faults rose.
pub record LaysReached (a b : RackView) (disk : ℕ) (arrays : List View) (joined : ℕ → Bool) (table : Table) {X : Type 0} (result : Result X Gone) : Type 0 where
  pub only : WritesOnly a b (IsLaid arrays joined disk table)
  pub gone : IfErr result (λ e. (e.disk ≡ disk) × Rose (a.faults disk) (b.faults disk))
  pub zeros :
      OnOk result
      ((n : ℕ) → n < length arrays → joined n ≡ true → IsLive a b disk (first_in arrays n + super_sector) → (v : List ℕ)
      → MayLeave (b.held disk (first_in arrays n + super_sector)) v → v ≡ no_state)
  pub cleared : OnOk result (IsLive a b disk state_sector → (v : List ℕ) → MayLeave (b.held disk state_sector) v → v ≡ no_state)
  pub gate : OnOk result (IsLive a b disk gate_at → (v : List ℕ) → MayLeave (b.held disk gate_at) v → v ≡ first_gate)
  pub mbr : OnOk result (IsLive a b disk 0 → now_on b disk 0 ≡ mbr_of table.sectors)
  pub copies :
      OnOk result (((s : ℕ) → IsOfTable table.sectors s → IsLive a b disk s) → (copy : TableCopy) → HoldsCopy copy table (now_on b disk))
  pub durable : OnOk result ((s : ℕ) → IsLive a b disk s → IsSingle (b.held disk s))

-- what is laid on it, and any of its slices
abbrev pub IsLaidOrSliced : Slices → List View → (ℕ → Bool) → (disk : ℕ) → Table → ℕ → ℕ → List ℕ → Type 0
IsLaidOrSliced t arrays joined disk table d s v = IsLaid arrays joined disk table d s v ⊎ IsSliced t d s v

-- ---- who may be taken in

-- A drive may come to the next place of the list. A pool has one drive at least, and at most 16.
pub record MayAppend (s : State) (place : ℕ) : Type 0 where
  pub next : place ≡ length s.drives.items
  pub some : 0 < place
  pub few : place < 16

-- A drive may take a place of the list, whose drive is missing or gives way to it: all others are there, and it reaches each array that the place
-- is a member of.
pub record MayReplace (s : State) (arrays : List View) (place units sectors : ℕ) : Type 0 where
  pub listed : place < length s.drives.items
  pub others : (p : ℕ) → p < length s.drives.items → p ≢ place → is_current s p ≡ true
  pub reaches : (n : ℕ) (u : View) → slice_get arrays n ≡ Some u → is_some (seat_of u place) ≡ true → reaches s.extent arrays units sectors n ≡ true

-- A plan of this place may begin.
abbrev pub MayBegin : State → List View → (place units sectors : ℕ) → Plan → Type 0
MayBegin s arrays place units sectors Nothing = ⊥
MayBegin s arrays place units sectors (Add p) = (p ≡ place) × MayAppend s place
MayBegin s arrays place units sectors (Replace p) = (p ≡ place) × MayReplace s arrays place units sectors

-- ---- what its taking in does

-- The book is changed by the drive, between losses, each loss with its cause. `a` and `b` are the slices by the tables that have its disk.
pub record TakesIn (place units : ℕ) (plan : Plan) (joining : ℕ → Bool) (v w : Raid) (a b : RackView) : Type 0 where
  pub turns : Turns (λ u. enlists place units plan joining) (λ u z. ⊥) v w true
  pub caused : AreCaused (changed (enlists place units plan joining) v) w a b
  pub heeded : IsHeeded w

-- The disk refused a call before it was one of the pool's: nothing else may have been written than what is laid on it.
pub record IsDeclined (arrays : List View) (joined : ℕ → Bool) (disk : ℕ) (table : Table) (a b : RackView) : Type 0 where
  pub only : WritesOnly a b (IsLaid arrays joined disk table)
  pub gone : Rose (a.faults disk) (b.faults disk)

-- Somebody was found gone before it, and is marked: nothing but losses has come to the book, each with its cause.
pub record IsLost (v w : Raid) (a b : RackView) : Type 0 where
  pub loses : LosesBook v w
  pub caused : AreCaused v w a b
  pub lost : HasLost v w a b
