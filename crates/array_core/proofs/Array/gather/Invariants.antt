use Rattle.std.proofs.Common.{◌≡◌}
use Rattle.rack.specs.Sequences.{OnlyReads}
use Rattle.array_image.specs.Held.{current_in}
use Rattle.array_model.specs.View.{shape_of}
use Rattle.array_model.specs.Says.{IsOpen}
use Rattle.array_model.specs.Members.{gathered}
use Rattle.array_model.proofs.Firsts.{firsts}
use Rattle.array_core.proofs.Array.gather.Given as goal

abbrev pub invariant-loop-position : goal.invariant-loop-position
invariant-loop-position g l =
    (l.self ≡ l.fn.self)
    × OnlyReads (g.R.Rack.seen l.fn.rack) (g.R.Rack.seen l.rack)
    × g.R.Rack.runs l.fn.rack l.rack
    × (IsOpen (shape_of l.fn.self) l.fn.self.number (g.R.Rack.seen l.fn.rack)
    → l.sum ≡ gathered (current_in (g.R.Rack.seen l.fn.rack).held) l.fn.self.number l.sector (firsts l.fn.self l.position))
