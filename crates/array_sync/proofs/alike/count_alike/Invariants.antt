use Rattle.std.proofs.Common.{◌*◌, ◌-◌}
use Rattle.rack.specs.Sequences.{OnlyReads}
use Rattle.sync_laws.specs.Rows.{AreAlike}
use Rattle.array_sync.proofs.alike.count_alike.Given as goal

abbrev pub invariant-loop-sector : goal.invariant-loop-sector
invariant-loop-sector g l =
    OnlyReads (g.R.Rack.seen l.fn.rack) (g.R.Rack.seen l.rack)
    × g.R.Rack.runs l.fn.rack l.rack
    × AreAlike l.array (g.R.Rack.seen l.fn.rack) (l.row * 128) (l.sector - l.row * 128)
