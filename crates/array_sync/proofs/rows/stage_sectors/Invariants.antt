use Rattle.std.proofs.Common.{◌≡◌, ◌*◌, ◌-◌}
use Rattle.rack.specs.Sequences.{OnlyReads}
use Rattle.array_model.specs.Members.{Notes}
use Rattle.sync_laws.specs.Rows.{AddsCopies, IsRowSum, OfRow}
use Rattle.array_sync.proofs.rows.stage_sectors.Given as goal

abbrev pub invariant-loop-sector : goal.invariant-loop-sector
invariant-loop-sector g l =
    OnlyReads (g.R.Rack.seen l.fn.rack) (g.R.Rack.seen l.rack)
    × Notes l.fn.array l.array (g.R.Rack.seen l.fn.rack) (g.R.Rack.seen l.rack)
    × g.R.Rack.runs l.fn.rack l.rack
    × AddsCopies l.fn.array (OfRow l.fn.array (l.row * 128) (l.sector - l.row * 128)) (IsRowSum l.fn.array (g.R.Rack.seen l.fn.rack)) (l.sector - l.row * 128) l.fn.log.added l.log.added
    × (l.log ≡ record l.fn.log { added = l.log.added })
