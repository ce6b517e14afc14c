use Rattle.array_core.specs.Settling.{WritesSupers}
use Rattle.array_core.proofs.Array.renew_supers.Given as goal

abbrev pub invariant-loop-position : goal.invariant-loop-position
invariant-loop-position g l =
    WritesSupers l.fn.self l.self (g.R.Rack.seen l.fn.rack) (g.R.Rack.seen l.rack) l.position × g.R.Rack.runs l.fn.rack l.rack
