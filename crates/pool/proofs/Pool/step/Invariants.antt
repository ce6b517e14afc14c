use Rattle.std.proofs.Common.{◌-◌, ◌≤◌}
use Rattle.pool.specs.View.{view}
use Rattle.pool.specs.Works.{IsWorked}
use Rattle.pool.specs.Calls.{DoesFirst}
use Rattle.pool.proofs.Pool.step.Given as goal

abbrev pub invariant-loop-done : goal.invariant-loop-done
invariant-loop-done g l = record {
  inside : l.done ≤ l.most;
  worked : IsWorked g.R.Rack.seen g.R.Rack.runs l.done l.fn.self l.self;
  does : DoesFirst l.done (view g.R.Rack.seen g.R.Bay.shelf l.fn.self) (view g.R.Rack.seen g.R.Bay.shelf l.self);
}

abbrev pub decreases-loop-done : goal.decreases-loop-done
decreases-loop-done g l = l.most - l.done
