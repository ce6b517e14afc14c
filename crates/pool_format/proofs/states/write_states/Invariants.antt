use Rattle.std.proofs.Common.{ℕ, ◌<◌}
use Rattle.rack.specs.Sequences.{WritesOnly}
use Rattle.pool_format.specs.Drives.{LeavesState}
use Rattle.pool_format.specs.Stops.{CopiesInOrder}
use Rattle.pool_format.proofs.Stopping.{InStatesTo}
use Rattle.pool_format.proofs.states.write_states.Given as goal

-- states alone were written so far, those of the drives up to here, one behind the other
abbrev pub invariant-loop-place : goal.invariant-loop-place
invariant-loop-place g l = record {
  laid : WritesOnly (g.R.Rack.seen l.initial.rack) (g.R.Rack.seen l.rack) (InStatesTo l.plan l.place);
  states : (d : ℕ) → d < l.place → LeavesState l.plan l.birth d (g.R.Rack.seen l.initial.rack) (g.R.Rack.seen l.rack);
  copies : CopiesInOrder l.plan l.birth (g.R.Rack.seen l.initial.rack) (g.R.Rack.seen l.rack);
  runs : g.R.Rack.runs l.initial.rack l.rack;
}
