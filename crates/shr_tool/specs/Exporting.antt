-- A volume's bytes, put in the order of its sectors, and how that came out.
use Rattle.std.specs.Prelude.{◌≡◌, ℕ, ◌+◌, ◌<◌, List, [], ◌∷◌, ◌++◌, map, Result, Ok, Err}
use Rattle.std.specs.List.{range_with_len, concat}
use Rattle.rack.specs.Seen.{RackView, Rose}
use Rattle.io_ends.specs.Sink.{AddsPrefix}
use Rattle.lvm_group.specs.Runs.{sectors_in}
use Rattle.shr_script.specs.declared.Command.TheVariants.{Read}
use Rattle.flat_array.specs.Array.{FlatArray}
use Rattle.pool.specs.View.{View}
use Rattle.pool.specs.Volume.{VolumeIs, size_of}
use Rattle.shr_tool.specs.declared.status.Status.{Status}
use Rattle.shr_tool.specs.declared.status.Status.TheVariants.{Done, Words, Limit, Source, Sink, Refused, Memory, Spent}
use Rattle.shr_tool.specs.declared.exporting.ExportFault.{ExportFault}
use Rattle.shr_tool.specs.declared.exporting.ExportFault.TheVariants.{Spent as AtSpent, Sink as AtSink}
use Rattle.shr_tool.specs.Events.{Event}
use Rattle.shr_tool.specs.Events.Event.{answered, spent}
use Rattle.shr_tool.specs.Outcome.{RunContract}
use Rattle.shr_tool.specs.Serving.{Ran}
use Rattle.pool.specs.Moment.{Moment}

-- the current bytes of a sector, and those of the first so many sectors
abbrev pub bytes_at : FlatArray → ℕ → List ℕ
bytes_at a sector = (a.values sector).current

abbrev pub bytes_of : FlatArray → ℕ → List ℕ
bytes_of a sectors = concat (map (bytes_at a) (range_with_len 0 sectors))

-- the reads of these
abbrev pub read_of : ℕ → Event
read_of sector = answered (Ok (Read sector))

abbrev pub reads_of : ℕ → List Event
reads_of sectors = map read_of (range_with_len 0 sectors)

-- How the sectors of a pool were put: all of them, those before a spent one, or those before one whose bytes the sink refused.
abbrev pub Puts : {X : Type 0} → View → View → Result X ExportFault → List ℕ → List ℕ → Type 0
Puts x y (Ok done) out out' =
    Ran x y (reads_of (size_of x)) × ((a : FlatArray) → VolumeIs x a → out' ≡ out ++ bytes_of a (size_of x))
Puts x y (Err AtSpent) out out' =
    (s : ℕ)
    × (s < size_of x)
    × Ran x y (reads_of s ++ spent (Ok (Read s)) s ∷ [])
    × ((a : FlatArray) → VolumeIs x a → out' ≡ out ++ bytes_of a s)
Puts x y (Err AtSink) out out' =
    (s : ℕ)
    × (s < size_of x)
    × Ran x y (reads_of (s + 1))
    × ((a : FlatArray) → VolumeIs x a → AddsPrefix (out ++ bytes_of a s) out' (bytes_at a s))

-- a fault of the sink is answered only where its count rose
abbrev pub HasExportCause : {X : Type 0} → Result X ExportFault → ℕ → ℕ → Type 0
HasExportCause (Ok done) sink sink' = Unit {0}
HasExportCause (Err AtSpent) sink sink' = Unit {0}
HasExportCause (Err AtSink) sink sink' = Rose sink sink'

-- the status of it
abbrev pub export_status : {X : Type 0} → Result X ExportFault → Status
export_status (Ok done) = Done
export_status (Err AtSpent) = Spent
export_status (Err AtSink) = Sink

-- all of the volume was put
pub record PutsAll (Told Traced : Type 0) (x y : RackView) (from : Moment) (a : FlatArray) (out out' : List ℕ) : Type 0 where
  pub put : Told → out' ≡ out ++ bytes_of a (sectors_in from.linear)
  pub lasts : RunContract Told Traced x y from a (reads_of (sectors_in from.linear))

-- a sector was refused as spent, and the bytes before it were put
pub record PutsToSpent (Told Traced : Type 0) (x y : RackView) (from : Moment) (a : FlatArray) (out out' : List ℕ) : Type 0 where
  pub sector : ℕ
  pub inside : sector < sectors_in from.linear
  pub put : Told → out' ≡ out ++ bytes_of a sector
  pub lasts : RunContract Told Traced x y from a (reads_of sector ++ spent (Ok (Read sector)) sector ∷ [])

-- the sink refused the bytes of a sector, of which it took a prefix
pub record PutsToFault (Told Traced : Type 0) (x y : RackView) (from : Moment) (a : FlatArray) (out out' : List ℕ) : Type 0 where
  pub sector : ℕ
  pub inside : sector < sectors_in from.linear
  pub put : Told → AddsPrefix (out ++ bytes_of a sector) out' (bytes_at a sector)
  pub lasts : RunContract Told Traced x y from a (reads_of (sector + 1))

-- How an export came out on a pool that held an array, where that was told.
abbrev pub ExportOutcome : Status → Type 0 → Type 0 → RackView → RackView → Moment → FlatArray → List ℕ → List ℕ → Type 0
ExportOutcome Done Told Traced x y from a out out' = PutsAll Told Traced x y from a out out'
ExportOutcome Words Told Traced x y from a out out' = ⊥
ExportOutcome Limit Told Traced x y from a out out' = ⊥
ExportOutcome Source Told Traced x y from a out out' = ⊥
ExportOutcome Sink Told Traced x y from a out out' = PutsToFault Told Traced x y from a out out'
ExportOutcome Refused Told Traced x y from a out out' = ⊥
ExportOutcome Memory Told Traced x y from a out out' = ⊥
ExportOutcome Spent Told Traced x y from a out out' = PutsToSpent Told Traced x y from a out out'
