-- The works of maintenance that a pool has left, by its arrays and its volume.
use Rattle.std.specs.Prelude.{◌≡◌, ◌≢◌, ℕ, ◌-◌, ◌*◌, ◌/◌, ◌⊎◌, ◌||◌, not, ◌<◌, Bool, true, false, nat_lt, if◌then◌else◌, List, [], ◌∷◌, drop, find, length, map, slice_get, Option, Some}
use Rattle.std.specs.List.{range_with_len}
use Rattle.std.specs.Option.{option_map_or}
use Rattle.array_image.specs.SoundArray.{first_unsynced}
use Rattle.array_image.specs.Supers.{is_reshaping, named_places, new_row}
use Rattle.array_model.specs.View.{View as ArrayView, rows_of}
use Rattle.array_model.specs.declared.Seat.TheVariants.{Missing}
use Rattle.array_core.specs.Seats.{seat_of}
use Rattle.sync_laws.specs.Rows.{others_give}
use Rattle.sync_laws.specs.Steps.{reach_on}
use Rattle.pool_state.specs.declared.contents.Plan.TheVariants.{Nothing}
use Rattle.pool_state.specs.declared.contents.Work.{Work}
use Rattle.pool_state.specs.declared.contents.Work.TheVariants.{Resync, Rebuild, Close}
use Rattle.growth_plan.specs.declared.ArrayNow.{ArrayNow}
use Rattle.growth_plan.specs.declared.Progress.{Progress}
use Rattle.growth_plan.specs.Works.{works_left}
use Rattle.lvm_group.specs.Runs.{Linear, extents_of}
use Rattle.lvm_group.specs.Volume.{linear as linear_of}
use Rattle.rack.specs.Seen.{RackView}
use Rattle.raid_laws.specs.Moves.{OnlyFailures, RaisesBy}
use Rattle.raid_laws.specs.Raid.{Raid, is_failed}
use Rattle.raid_rack.specs.RaidRack.{KeepsRack, SliceRuns, raid_in, raid_seen, slices_in, slices_seen, written_in}
use Rattle.raid_laws.specs.Runs.{RaidRuns}
use Rattle.raid_laws.specs.Book.{OnlyMarksSince}
use Rattle.raid_laws.specs.Works.{array_of, is_due, is_rebuilding_seat, is_stuck, next_row}
use Rattle.pool.specs.declared.Pool.{Pool}
use Rattle.pool.specs.Keeping.{HasMarkedSeats, KeepsBook, most_raised}
use Rattle.pool.specs.View.{View, arrays_of, book}

-- ---- how an array stands

-- whether the member of a place is being rebuilt
abbrev pub is_rebuilding_on : ArrayView → ℕ → Bool
is_rebuilding_on v place = option_map_or is_rebuilding_seat (seat_of v place) false

-- the place of the member that is being rebuilt
abbrev pub rebuilding_in : ArrayView → Option ℕ
rebuilding_in v = find (is_rebuilding_on v) (named_places v.truth)

-- the rows that a place's member still has to rebuild
abbrev pub rows_to_rebuild : ArrayView → ℕ → ℕ
rows_to_rebuild v place = rows_of v - reach_on v place / 128

-- the rows that a reshape has still to move
abbrev pub rows_to_reshape : ArrayView → ℕ
rows_to_reshape v = if is_reshaping v.truth then rows_of v - v.truth.reshape_position / new_row v.truth else 0

-- the rows of a young array that are left to zero
abbrev pub rows_to_zero : ArrayView → ℕ
rows_to_zero v = if v.young then rows_of v - first_unsynced v.truth else 0

-- An array, by extents of so many sectors. In a young one no row is left to resync.
abbrev pub array_now : ℕ → ArrayView → ArrayNow
array_now extent v = record {
  level = v.truth.level;
  members = record { items = named_places v.truth };
  height = (v.truth.size - 2048) / extent;
  rows = rows_of v;
  resync = rows_of v - v.resync;
  rebuild = option_map_or (rows_to_rebuild v) (rebuilding_in v) 0;
  rebuilding = option_map_or (λ place. place) (rebuilding_in v) 0;
  reshaping = is_reshaping v.truth;
  reshape = rows_to_reshape v;
  zero = rows_to_zero v;
}

-- ---- what is left of a pool's works

-- the arrays of a book, by number
abbrev pub arrays_now : Raid → List ArrayNow
arrays_now v = map (λ n. array_now v.state.extent (v.arrays n)) (range_with_len 0 v.state.made)

-- how far the arrays and the volume are
abbrev pub progress_by : Linear → Raid → Progress
progress_by l v = record { arrays = record { items = arrays_now v }; extents = extents_of l.runs }

-- The works that a book has left, in their order. A pool has drives: a list without any, which no state has that was read, has no works.
abbrev pub works_by : Linear → Raid → List Work
works_by l v = if nat_lt 0 (length v.state.drives.items) then works_left v.state (progress_by l v) else []

-- those of a pool
abbrev pub works_of : View → List Work
works_of x = works_by x.linear (book x)

-- how many they are
abbrev pub left_by : Linear → Raid → ℕ
left_by l v = length (works_by l v)

abbrev pub left_of : View → ℕ
left_of x = left_by x.linear (book x)

-- one member of an array at most is being rebuilt
abbrev pub IsOneRebuilt : ArrayView → Type 0
IsOneRebuilt v = (p q : ℕ) → is_rebuilding_on v p ≡ true → is_rebuilding_on v q ≡ true → p ≡ q

-- Of the arrays only rows to resync and to rebuild may be left: none is young, and of each one member at most is being rebuilt.
pub record HasRowsAlone (v : Raid) : Type 0 where
  pub grown : (n : ℕ) → n < v.state.made → (v.arrays n).young ≡ false
  pub one : (n : ℕ) → n < v.state.made → IsOneRebuilt (v.arrays n)

-- ---- a plan

-- Works leave an array's members so: each has its id, and it stays as it was or is missing, unless it was being rebuilt.
pub record KeepsMembers (u w : ArrayView) : Type 0 where
  pub devices : w.devices ≡ u.devices
  pub seats :
      (k : ℕ)
      → (slice_get w.seats k ≡ slice_get u.seats k) ⊎ (slice_get w.seats k ≡ Some Missing)
      ⊎ (option_map_or is_rebuilding_seat (slice_get u.seats k) false ≡ true)

-- those of each array
abbrev pub KeepsAllMembers : Raid → Raid → Type 0
KeepsAllMembers v w = (n : ℕ) → n < v.state.made → KeepsMembers (v.arrays n) (w.arrays n)

-- A plan has ended as the last work that was left by a book between two: nothing else was left then, no row to resync or to rebuild. In that book just those members are
-- missing whose drives are marked, and none is being rebuilt that wasn't.
pub record EndsPlan (l : Linear) (v w : Raid) : Type 0 where
  pub mid : Raid
  pub marks : OnlyMarksSince v.state mid.state
  pub done : KeepsBook v mid
  pub members : KeepsAllMembers v mid
  pub seated : HasMarkedSeats mid
  pub before : mid.state.plan ≡ v.state.plan
  pub last : works_by l mid ≡ Close ∷ []
  pub losses : OnlyMarksSince mid.state w.state
  pub left : KeepsBook mid w
  pub ended : w.state.plan ≡ Nothing

-- a plan goes on, or has ended so
abbrev pub KeepsPlan : Linear → Raid → Raid → Type 0
KeepsPlan l v w = (w.state.plan ≡ v.state.plan) ⊎ EndsPlan l v w

-- ---- works that can't be done

-- The next row of a work of the book v can't be had by the book w: that of a resync, or what the others give of the member that is rebuilt.
abbrev pub LacksRow : (v w : Raid) → Work → Type 0
LacksRow v w (Resync n) = is_stuck w n (v.arrays n).resync ≡ true
LacksRow v w (Rebuild n place) = (is_failed w n || not (others_give (w.arrays n) place (next_row (v.arrays n) place))) ≡ true
LacksRow v w work = ⊥

-- The first of the works that the book v has left can't be done, which is one of this array: it isn't due, and nothing was called; or its next row can't be had by the
-- book w, which has the losses that were met in the try. Of the other arrays nothing has changed but whom they lost, and a plan goes on.
pub record IsStuck (l : Linear) (v w : Raid) (array : ℕ) : Type 0 where
  pub work : Work
  pub first : slice_get (works_by l v) 0 ≡ Some work
  pub named : array ≡ array_of work
  pub why : ((is_due v work ≡ false) × (w ≡ v)) ⊎ LacksRow v w work
  pub others : (n : ℕ) → n < v.state.made → n ≢ array → OnlyFailures (v.arrays n) (w.arrays n)
  pub plan : w.state.plan ≡ v.state.plan

-- So it is by a book between two, in which just those members are missing whose drives are marked. Up to it fewer works than were asked for were done, members stayed but for
-- losses and rebuilds, and a plan went on or ended; where no disk's faults rose (`Quiet`) and only rows to resync and to rebuild were left of the arrays, these were the first
-- works that were left. From it to the last book there is what a try does.
pub record StopsStuck (Quiet : Type 0) (l : Linear) (count : ℕ) (v w : Raid) (array : ℕ) : Type 0 where
  pub mid : Raid
  pub marks : OnlyMarksSince v.state mid.state
  pub done : KeepsBook v mid
  pub kept : KeepsAllMembers v mid
  pub seated : HasMarkedSeats mid
  pub works : ℕ
  pub few : works < count
  pub rest : Quiet → HasRowsAlone v → works_by l mid ≡ drop works (works_by l v)
  pub plan : KeepsPlan l v mid
  pub losses : OnlyMarksSince mid.state w.state
  pub left : KeepsBook mid w
  pub members : KeepsAllMembers v w
  pub stuck : IsStuck l mid w array

-- ---- works that are done

-- Works in a row, by so many calls of the arrays at most: the volume lies where it lay, its arrays keep their values and their members, they run on the slices below, and a plan goes on, or has ended as
-- the last work.
pub record IsWorked {R : Type 0} (seen : R → RackView) (runs : R → R → Type 0) (count : ℕ) (p q : Pool R) : Type 0 where
  pub linear : linear_of q.volume ≡ linear_of p.volume
  pub keeps : KeepsRack (raid_seen seen (arrays_of p)) (raid_seen seen (arrays_of q))
  pub ran : SliceRuns seen runs (slices_in (arrays_of p)) (slices_in (arrays_of q))
  pub book :
      RaidRuns (written_in (arrays_of p)) (written_in (arrays_of q)) (raid_in (arrays_of p)) (raid_in (arrays_of q))
      (slices_seen seen (arrays_of p)) (slices_seen seen (arrays_of q))
  pub arrays : KeepsBook (raid_in (arrays_of p)) (raid_in (arrays_of q))
  pub members : KeepsAllMembers (raid_in (arrays_of p)) (raid_in (arrays_of q))
  pub plan : KeepsPlan (linear_of p.volume) (raid_in (arrays_of p)) (raid_in (arrays_of q))
  pub raises : RaisesBy (most_raised * count) (raid_in (arrays_of p)) (raid_in (arrays_of q))
