-- What settling makes of an array.
use Rattle.std.specs.Prelude.{◌≡◌, ◌≢◌, ◌⊎◌, ◌<◌, ℕ, Bool, true, false, List, [], Some, slice_get}
use Rattle.rack.specs.Seen.{RackView, IsLive}
use Rattle.array_model.specs.View.{View, is_whole_array}
use Rattle.array_model.specs.Members.{Notes, slice_on}
use Rattle.array_core.specs.Superblocks.{settled, is_settled, IsSectorOf, member_super, raised}
use Rattle.rack.specs.Values.{MayLeave, Keeps}
use Rattle.rack.specs.Sequences.{OnlyReads, WritesOnly}
use Rattle.array_image.specs.Places.{super_sector}
use Rattle.array_model.specs.declared.Seat.TheVariants.{Missing}
use Rattle.array_core.specs.declared.slots.Slot.{Slot}
use Rattle.array_core.specs.Stands.{IsSlot}

-- the places that went are noted, and the truth has one more event, with the rows that are left
pub record Settles (v w : View) (a b : RackView) : Type 0 where
  pub synced : View
  pub notes : Notes v synced a b
  pub truth : w ≡ settled synced

-- the sector of a member's superblock, by position
pub record IsOwnSector (v : View) (n : ℕ) (x : List ℕ) : Type 0 where
  pub slot : Slot
  pub is : IsSlot v n slot
  pub bytes : IsSectorOf (member_super v.truth slot) x

-- a value for the superblock of a member that isn't missing
pub record IsNewSuper (v : View) (d t : ℕ) (x : List ℕ) : Type 0 where
  pub position : ℕ
  pub inside : position < v.truth.raid_disks
  pub there : slice_get v.seats position ≢ Some Missing
  pub disk : d ≡ slice_on v position
  pub sector : t ≡ super_sector
  pub own : IsOwnSector v position x

-- the superblock of one member was written, unless it is missing, and durably unless it went
pub record WritesSuper (v w : View) (a b : RackView) (n : ℕ) : Type 0 where
  pub notes : Notes v w a b
  pub only : WritesOnly a b (λ d t x. (d ≡ slice_on v n) × IsNewSuper v d t x)
  pub durable :
      slice_get w.seats n ≢ Some Missing → IsLive a b (slice_on v n) super_sector
      → (x : List ℕ) → MayLeave (b.held (slice_on v n) super_sector) x → IsOwnSector v n x

-- those of the first so many members were
pub record WritesSupers (v w : View) (a b : RackView) (many : ℕ) : Type 0 where
  pub notes : Notes v w a b
  pub only : WritesOnly a b (IsNewSuper v)
  pub durable :
      (n : ℕ) → n < many → slice_get w.seats n ≢ Some Missing → IsLive a b (slice_on v n) super_sector
      → (x : List ℕ) → MayLeave (b.held (slice_on v n) super_sector) x → IsOwnSector v n x

-- nothing else was to be done, and nothing is written
pub record IsSynced (synced w : View) (a b : RackView) : Type 0 where
  pub same : w ≡ synced
  pub reads : OnlyReads a b
  pub why : (synced.went ≢ []) ⊎ (is_settled synced ≡ true)

-- superblocks were written
pub record IsCleaned (synced w : View) (a b : RackView) : Type 0 where
  pub fresh : synced.went ≡ []
  pub open_rows : is_settled synced ≡ false
  pub notes : Notes (settled synced) w a b
  -- those of the members that are left are durable
  pub durable :
      (n : ℕ) → n < synced.truth.raid_disks → slice_get w.seats n ≢ Some Missing → IsLive a b (slice_on synced n) super_sector
      → (x : List ℕ) → MayLeave (b.held (slice_on synced n) super_sector) x → IsOwnSector (settled synced) n x

-- Members were synced. Where a place had gone by then, or the truth says already what settling would, that is all. Else their
-- superblocks were written, with one more event and the rows that are left.
pub record Cleans (v w : View) (a b : RackView) : Type 0 where
  pub synced : View
  pub notes : Notes v synced a b
  pub either : IsSynced synced w a b ⊎ IsCleaned synced w a b

-- calls that write superblocks and nothing else
abbrev pub KeepsOthers : RackView → RackView → Type 0
KeepsOthers a b = (d t : ℕ) → IsLive a b d t → t ≢ super_sector → Keeps (a.held d t) (b.held d t)

-- the array with a truth that leaves all rows to resync, of one more event
abbrev pub unsynced : View → View
unsynced v = record v { truth = record v.truth { events = raised v.truth.events; resync_offset = 0 }; marked = false }

-- That superblock was written for each member. The array is marked where each one has it durably.
pub record Marks (v w : View) (a b : RackView) : Type 0 where
  pub written : View
  pub writes : WritesSupers (unsynced v) written a b v.truth.raid_disks
  pub either : ((written.went ≡ []) × (w ≡ record written { marked = true })) ⊎ ((written.went ≢ []) × (w ≡ written))

-- Whether rows may be written past the log: they may where a whole array is marked, or has just been marked. Else it was marked on
-- those that are left, or nothing was done.
pub data Readies (v w : View) (a b : RackView) : Bool → Type 0 where
  was_marked : is_whole_array v ≡ true → v.went ≡ [] → v.marked ≡ true → w ≡ v → OnlyReads a b → Readies v w a b true
  now_marked : is_whole_array v ≡ true → v.went ≡ [] → v.marked ≡ false → w.marked ≡ true → Marks v w a b → Readies v w a b true
  lost_one : is_whole_array v ≡ true → v.went ≡ [] → v.marked ≡ false → w.marked ≡ false → Marks v w a b → Readies v w a b false
  not_whole : w ≡ v → OnlyReads a b → (is_whole_array v ≡ false) ⊎ (v.went ≢ []) → Readies v w a b false
