-- Where the sectors of a linear volume stand: runs of extents, one behind the other, each on one array.
use Rattle.std.specs.Prelude.{◌≡◌, ℕ, ◌+◌, ◌-◌, ◌*◌, ◌/◌, ◌%◌, ◌<◌, ◌&&◌, Bool, nat_le, nat_lt, List, [], ◌∷◌, take, slice_get, Option, Some}
use Rattle.std.specs.Option.{option_map_or}
use Rattle.std.specs.List.{find}
use Rattle.lvm_group.specs.declared.runs.Run.{Run}

-- a linear volume: the sectors of an extent, how many arrays it is over, and its runs in their order
pub record Linear : Type 0 where
  pub extent : ℕ
  pub arrays : ℕ
  pub runs : List Run

-- ---- extents

-- how many extents runs have
abbrev pub extents_of : List Run → ℕ
extents_of [] = 0
extents_of (run ∷ others) = run.count + extents_of others

-- a run has this extent of the volume
abbrev pub has_extent : ℕ → Run → Bool
has_extent extent run = nat_le run.start extent && nat_lt extent (run.start + run.count)

-- the run that has it
abbrev pub run_of : List Run → ℕ → Option Run
run_of runs extent = find (has_extent extent) runs

-- an extent of an array
pub record Place : Type 0 where
  pub array : ℕ
  pub extent : ℕ

-- where an extent of a run lies
abbrev pub place_in : ℕ → Run → Place
place_in extent run = record { array = run.array; extent = run.first + (extent - run.start) }

-- where an extent of the volume lies, where a run has it
abbrev pub place_of : List Run → ℕ → Place
place_of runs extent = option_map_or (place_in extent) (run_of runs extent) (record { array = 0; extent = 0 })

-- ---- sectors

-- the sector of an array at which its first extent begins
abbrev pub data_start : ℕ
data_start = 2048

-- how many sectors the volume has
abbrev pub sectors_in : Linear → ℕ
sectors_in l = extents_of l.runs * l.extent

-- the array on which a sector of the volume stands
abbrev pub array_of : Linear → ℕ → ℕ
array_of l sector = (place_of l.runs (sector / l.extent)).array

-- and its sector there
abbrev pub sector_of : Linear → ℕ → ℕ
sector_of l sector = data_start + (place_of l.runs (sector / l.extent)).extent * l.extent + sector % l.extent

-- ---- what holds of each volume

-- each run starts where those before it end, the first one here
abbrev pub AreInOrder : ℕ → List Run → Type 0
AreInOrder start runs = (place : ℕ) (run : Run) → slice_get runs place ≡ Some run → run.start ≡ start + extents_of (take place runs)

-- no two extents of the volume are one extent of an array
abbrev pub AreApart : List Run → Type 0
AreApart runs =
    (extent other : ℕ) → extent < extents_of runs → other < extents_of runs
    → (place_of runs extent).array ≡ (place_of runs other).array → (place_of runs extent).extent ≡ (place_of runs other).extent → extent ≡ other

pub record IsOrderly (l : Linear) : Type 0 where
  -- an extent has a sector
  pub sized : 0 < l.extent
  -- the runs follow each other from extent 0 on
  pub order : AreInOrder 0 l.runs
  pub apart : AreApart l.runs
