use Rattle.std.proofs.Common.{◌-◌, ◌≤◌}
use Rattle.pool.specs.Growing.{DoesMany, KeepsGrowing}
use Rattle.pool.specs.Moment.{moment_of}
use Rattle.pool.specs.View.{bay_in, view}
use Rattle.pool.proofs.Pool.grow.Given as goal

abbrev pub invariant-loop-done : goal.invariant-loop-done
invariant-loop-done g l = record {
  inside : l.done ≤ l.most;
  keeps : KeepsGrowing l.done (view g.R.Rack.seen g.R.Bay.shelf l.fn.self) (view g.R.Rack.seen g.R.Bay.shelf l.self);
  works : DoesMany l.done (moment_of (view g.R.Rack.seen g.R.Bay.shelf l.fn.self)) (moment_of (view g.R.Rack.seen g.R.Bay.shelf l.self));
  runs : g.R.Rack.runs (bay_in l.fn.self) (bay_in l.self);
}

abbrev pub decreases-loop-done : goal.decreases-loop-done
decreases-loop-done g l = l.most - l.done
