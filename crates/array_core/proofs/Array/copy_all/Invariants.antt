use Rattle.std.proofs.Common.{map}
use Rattle.array_model.specs.Members.{Works}
use Rattle.array_model.specs.Rows.{target_on}
use Rattle.array_model.proofs.Firsts.{firsts}
use Rattle.array_core.proofs.Array.copy_all.Given as goal

abbrev pub invariant-loop-position : goal.invariant-loop-position
invariant-loop-position g l =
    Works l.fn.self l.self (g.R.Rack.seen l.fn.rack) (g.R.Rack.seen l.rack) (map (target_on l.fn.self.number l.sector l.from) (firsts l.fn.self l.position))
    × g.R.Rack.runs l.fn.rack l.rack
