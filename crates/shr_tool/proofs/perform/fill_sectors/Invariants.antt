-- The sectors before the one in hand are filled.
use Rattle.std.proofs.Common.{◌+◌, ◌≤◌}
use Rattle.pool.specs.View.{bay_in, view}
use Rattle.shr_tool.proofs.Filled.{IsFilled}
use Rattle.shr_tool.proofs.perform.fill_sectors.Given as goal

abbrev pub invariant-loop-at : goal.invariant-loop-at
invariant-loop-at g l =
    let shown = view g.R.Rack.seen g.R.Bay.shelf in
    record {
      from : l.sector ≤ l.at;
      until : l.at ≤ l.sector + l.count;
      runs : g.R.Rack.runs (bay_in l.fn.pool) (bay_in l.pool);
      filled : IsFilled (shown l.fn.pool) (shown l.pool) l.sector l.at l.bytes;
    }
