use Rattle.std.proofs.Common.{ℕ, ◌<◌}
use Rattle.rack.specs.Sequences.{WritesOnly}
use Rattle.pool_format.specs.Drives.{LeavesCleared}
use Rattle.pool_format.specs.Writing.{InCleared}
use Rattle.pool_format.proofs.states.clear_states.Given as goal

-- sectors of states alone were cleared so far, those of the drives up to here
abbrev pub invariant-loop-place : goal.invariant-loop-place
invariant-loop-place g l = record {
  laid : WritesOnly (g.R.Rack.seen l.initial.rack) (g.R.Rack.seen l.rack) (InCleared l.plan);
  cleared : (d : ℕ) → d < l.place → LeavesCleared d (g.R.Rack.seen l.initial.rack) (g.R.Rack.seen l.rack);
  runs : g.R.Rack.runs l.initial.rack l.rack;
}
