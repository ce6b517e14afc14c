use Rattle.std.proofs.Common.{◌≡◌}
use Rattle.rack.specs.Sequences.{OnlyReads}
use Rattle.array_image.specs.Held.{current_in}
use Rattle.array_model.specs.View.{shape_of}
use Rattle.array_model.specs.Says.{IsOpen}
use Rattle.sync_laws.specs.Rows.{held_sum}
use Rattle.array_sync.proofs.alike.agree.Given as goal

abbrev pub invariant-loop-position : goal.invariant-loop-position
invariant-loop-position g l =
    OnlyReads (g.R.Rack.seen l.fn.rack) (g.R.Rack.seen l.rack)
    × g.R.Rack.runs l.fn.rack l.rack
    × (IsOpen (shape_of l.array) l.array.number (g.R.Rack.seen l.fn.rack) → l.sum ≡ held_sum l.array (current_in (g.R.Rack.seen l.fn.rack).held) l.sector l.position)
