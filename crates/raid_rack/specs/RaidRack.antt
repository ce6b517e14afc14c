-- A rack of arrays, as contracts see it.
use Rattle.std.specs.Prelude.{◌≡◌, ◌⊎◌, ℕ, Bool, pos, true, false, List, [], length, get_or, slice_get, unwrap_or, Result, Ok, Err}
use Rattle.rack.specs.Seen.{RackView, SameRack}
use Rattle.rack.specs.Calls.{KeepsAll}
use Rattle.slice_rack.specs.declared.SliceRack.{SliceRack}
use Rattle.slice_rack.specs.SliceRack.{tables, below_of}
use Rattle.slice_rack.specs.Runs.{Runs}
use Rattle.slice_rack.specs.Sliced.{slices_of}
use Rattle.md_super.specs.declared.superblock.Super.{Super}
use Rattle.array_model.specs.View.{View}
use Rattle.raid_rack.specs.declared.arrays.RaidRack.{RaidRack}
use Rattle.raid_rack.specs.declared.arrays.Arrays.{Arrays}
use Rattle.raid_laws.specs.Agreeing.{MakesAgree}
use Rattle.raid_laws.specs.Raid.{Raid, is_left, raid_of}
use Rattle.raid_laws.specs.Truths.{MakesTruths}
use Rattle.raid_laws.specs.Unlost.{KeepsUnlost}
use Rattle.raid_laws.specs.Moves.{AreMarked, IsHeeded, IsSet, ChangesNoData, RaisesBy}
use Rattle.transition_laws.specs.Losses.{IsRunOf, MakesLosses}

-- a number without an array: nothing is said of it
abbrev pub no_super : Super
no_super = record {
  feature_map = 0;
  set_id = record { 0 = [] };
  set_name = [];
  ctime = 0;
  level = pos 0;
  layout = 0;
  size = 0;
  chunk = 0;
  raid_disks = 0;
  new_level = pos 0;
  reshape_position = 0;
  delta_disks = pos 0;
  new_layout = 0;
  new_chunk = 0;
  data_offset = 0;
  data_size = 0;
  super_offset = 0;
  recovery_offset = 0;
  dev_number = 0;
  device_id = record { 0 = [] };
  utime = 0;
  events = 0;
  resync_offset = 0;
  roles = record { items = [] };
}

abbrev pub no_array : View
no_array = record { number = 0; truth = no_super; seats = []; devices = []; went = []; resync = 0; young = false; marked = false }

-- the arrays with their state and log
abbrev pub raid_by : Arrays → Raid
raid_by a = record {
  state = a.state;
  arrays = λ n. get_or a.all.items n no_array;
  number = a.log.number;
}

abbrev pub raid_in : {R : Type 0} → RaidRack R → Raid
raid_in rack = raid_by rack.arrays

-- the arrays, by number
abbrev pub arrays_of : {R : Type 0} → RaidRack R → List View
arrays_of rack = rack.arrays.all.items

-- the slices below
abbrev pub slices_in : {R : Type 0} → RaidRack R → SliceRack R
slices_in rack = rack.slices

-- The arrays of a pool over its slices: those below `made`, each one of the pool.
pub record IsRunning (a : Arrays) (x : RackView) : Type 0 where
  pub count : length a.all.items ≡ a.state.made
  pub set : IsSet (raid_by a) x

-- One turn of the marking of losses: whoever went is marked, or somebody isn't left any more.
pub record EndsTurn (a b : Arrays) (x y : RackView) : Type 0 where
  pub moves : ChangesNoData (raid_by a) (raid_by b) x y
  pub progress :
      AreMarked (raid_by b) ⊎ ((place : ℕ) × (is_left (raid_by a) place ≡ true) × (is_left (raid_by b) place ≡ false))
  pub raises : RaisesBy 1 (raid_by a) (raid_by b)
  pub running : IsRunning b y
  -- the commit has all superblocks
  pub supers : MakesAgree (raid_by a) (raid_by b) x y
  pub truths : AreMarked (raid_by b) → MakesTruths (raid_by a) (raid_by b) x y
  pub unlost : KeepsUnlost a.state b.state x y
  -- this is all that it makes of a book
  pub losses : (d : Raid) → IsRunOf d (raid_by a) → MakesLosses d (raid_by a) (raid_by b) x y

-- the arrays of a rack of arrays, with their state and log
abbrev pub arrays_in : {R : Type 0} → RaidRack R → Arrays
arrays_in rack = rack.arrays

-- the spent answers of each array so far
abbrev pub refused_in : {R : Type 0} → RaidRack R → ℕ → ℕ
refused_in rack n = unwrap_or (slice_get rack.refused n) 0

-- the arrays that it has written
abbrev pub is_written : List Bool → ℕ → Bool
is_written written n = unwrap_or (slice_get written n) false

abbrev pub written_in : {R : Type 0} → RaidRack R → ℕ → Bool
written_in rack = is_written rack.written

-- what slices show
abbrev pub slices_by : {R : Type 0} → (R → RackView) → SliceRack R → RackView
slices_by seen slices = slices_of (tables slices) (seen (below_of slices))

-- what its slices show
abbrev pub slices_seen : {R : Type 0} → (R → RackView) → RaidRack R → RackView
slices_seen seen rack = slices_of (tables (slices_in rack)) (seen (below_of (slices_in rack)))

-- The arrays of a pool between calls: nobody went who isn't heeded.
pub record IsFit (a : Arrays) (x : RackView) : Type 0 where
  pub running : IsRunning a x
  pub heeded : IsHeeded (raid_by a)

-- what a rack of arrays shows
abbrev pub raid_seen : {R : Type 0} → (R → RackView) → RaidRack R → RackView
raid_seen seen rack =
    raid_of (IsFit (arrays_in rack) (slices_seen seen rack)) (refused_in rack) (raid_in rack) (slices_seen seen rack)

-- As a rack, it stays, and no value comes or goes: what it tells, it tells after the call.
pub record KeepsRack (a b : RackView) : Type 0 where
  pub stays : SameRack a b
  pub keeps : KeepsAll a b

-- what calls on the slices below keep: where the slices lie, what the rack of drives promises, and all sectors outside slices
abbrev pub SliceRuns : {R : Type 0} → (R → RackView) → (R → R → Type 0) → SliceRack R → SliceRack R → Type 0
SliceRuns seen runs x y = Runs (tables x) (tables y) (seen (below_of x)) (seen (below_of y)) (runs (below_of x) (below_of y))

-- an answer to one work, as the number of works that are done
abbrev pub one_done : {E : Type 0} → Result (Unit {0}) E → Result ℕ E
one_done (Ok u) = Ok 1
one_done (Err e) = Err e
