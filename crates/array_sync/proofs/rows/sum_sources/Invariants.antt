use Rattle.std.proofs.Common.{◌≡◌}
use Rattle.rack.specs.Sequences.{OnlyReads}
use Rattle.array_image.specs.Held.{current_in}
use Rattle.array_model.specs.View.{shape_of}
use Rattle.array_model.specs.Says.{IsOpen}
use Rattle.array_model.specs.Members.{Notes}
use Rattle.sync_laws.specs.Rows.{SourcesCount, row_sum}
use Rattle.array_sync.proofs.rows.sum_sources.Given as goal

abbrev pub invariant-loop-position : goal.invariant-loop-position
invariant-loop-position g l =
    OnlyReads (g.R.Rack.seen l.fn.rack) (g.R.Rack.seen l.rack)
    × Notes l.fn.array l.array (g.R.Rack.seen l.fn.rack) (g.R.Rack.seen l.rack)
    × g.R.Rack.runs l.fn.rack l.rack
    × SourcesCount l.fn.array l.sector l.position
    × (IsOpen (shape_of l.fn.array) l.fn.array.number (g.R.Rack.seen l.fn.rack)
    → l.sum ≡ row_sum l.fn.array (current_in (g.R.Rack.seen l.fn.rack).held) l.sector l.position)
