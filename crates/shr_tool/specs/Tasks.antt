-- What is done on an opened pool, and how that came out.
use Rattle.std.specs.Prelude.{ℕ, Bool, true, false, List, [], codes}
use Rattle.rack.specs.Seen.{RackView}
use Rattle.flat_array.specs.Array.{FlatArray}
use Rattle.shr_tool.specs.declared.status.Status.{Status}
use Rattle.shr_tool.specs.declared.opening.Task.{Task}
use Rattle.shr_tool.specs.declared.opening.Task.TheVariants.{Serve, Import, Export, Show, Trial}
use Rattle.shr_tool.specs.Exporting.{ExportOutcome}
use Rattle.shr_tool.specs.Importing.{ImportOutcome}
use Rattle.shr_tool.specs.Outcome.{EventsOutcome, Outcome}
use Rattle.shr_tool.specs.Trial.{TrialOutcome}
use Rattle.pool.specs.Moment.{Moment}

-- by the task: `status` is the script of that one line
abbrev pub TaskOutcome : Task → Status → Type 0 → Type 0 → RackView → RackView → Moment → FlatArray → List ℕ → List ℕ → List ℕ → List ℕ → Type 0
TaskOutcome Serve status Told Traced x y from a text rest out out' = Outcome status Told Traced x y from a text rest out out'
TaskOutcome Import status Told Traced x y from a text rest out out' = ImportOutcome status Told Traced x y from a text rest out out'
TaskOutcome Export status Told Traced x y from a text rest out out' = ExportOutcome status Told Traced x y from a out out'
TaskOutcome Show status Told Traced x y from a text rest out out' = EventsOutcome status Told Traced x y from a (codes "status") [] out out'
TaskOutcome (Trial seed) status Told Traced x y from a text rest out out' = TrialOutcome seed status Told Traced x y from a out out'

-- that the input is told, where the task reads it
abbrev pub NeedsInput : Task → Type 0 → Type 0
NeedsInput Serve told = told
NeedsInput Import told = told
NeedsInput Export told = Unit {0}
NeedsInput Show told = Unit {0}
NeedsInput (Trial seed) told = Unit {0}

-- whether the task takes from the input
abbrev pub takes_input : Task → Bool
takes_input Serve = true
takes_input Import = true
takes_input Export = false
takes_input Show = false
takes_input (Trial seed) = false
