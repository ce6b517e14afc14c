use Rattle.std.proofs.Common.{◌<◌, ℕ}
use Rattle.rack.specs.Sequences.{OnlyReads}
use Rattle.array_model.specs.View.{shape_of}
use Rattle.array_model.specs.Says.{IsOpen}
use Rattle.array_model.specs.Members.{Notes, IsSingleOn}
use Rattle.array_core.proofs.Array.sync.Given as goal

abbrev pub invariant-loop-position : goal.invariant-loop-position
invariant-loop-position g l =
    OnlyReads (g.R.Rack.seen l.fn.rack) (g.R.Rack.seen l.rack)
    × Notes l.fn.self l.self (g.R.Rack.seen l.fn.rack) (g.R.Rack.seen l.rack)
    × g.R.Rack.runs l.fn.rack l.rack
    × (IsOpen (shape_of l.fn.self) l.fn.self.number (g.R.Rack.seen l.fn.rack) → (j : ℕ) → j < l.position → IsSingleOn l.self (g.R.Rack.seen l.rack) j)
