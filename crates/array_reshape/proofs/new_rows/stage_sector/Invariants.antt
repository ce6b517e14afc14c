use Rattle.std.proofs.Common.{◌≡◌}
use Rattle.rack.specs.Sequences.{OnlyReads}
use Rattle.array_model.specs.Members.{Notes}
use Rattle.reshape_laws.specs.Rows.{AddsData}
use Rattle.array_reshape.proofs.new_rows.stage_sector.Given as goal

abbrev pub invariant-loop-position : goal.invariant-loop-position
invariant-loop-position g l =
    OnlyReads (g.R.Rack.seen l.fn.rack) (g.R.Rack.seen l.rack)
    × Notes l.fn.array l.array (g.R.Rack.seen l.fn.rack) (g.R.Rack.seen l.rack)
    × g.R.Rack.runs l.fn.rack l.rack
    × AddsData l.fn.array (g.R.Rack.seen l.fn.rack) l.sector l.position l.absent l.sum l.fn.log.added l.log.added
    × (l.log ≡ record l.fn.log { added = l.log.added })
