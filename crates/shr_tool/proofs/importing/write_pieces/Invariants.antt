-- The pieces for the sectors before the one in hand are written.
use Rattle.std.proofs.Common.{◌≡◌, ◌≤◌, length}
use Rattle.pool.specs.View.{bay_in, view}
use Rattle.pool.specs.Calls.{CallFrame}
use Rattle.shr_tool.proofs.Imported.{HasWritten}
use Rattle.shr_tool.proofs.importing.write_pieces.Given as goal

abbrev pub invariant-loop-sector : goal.invariant-loop-sector
invariant-loop-sector g l =
    let shown = view g.R.Rack.seen g.R.Bay.shelf in
    let left = g.I.Source.left in
    record {
      until : l.sector ≤ l.size;
      long : length l.piece ≡ 512;
      runs : g.R.Rack.runs (bay_in l.fn.pool) (bay_in l.pool);
      passes : CallFrame (shown l.fn.pool) (shown l.pool);
      source : g.I.Source.faults l.fn.input ≤ g.I.Source.faults l.input;
      told : g.I.Source.told l.fn.input → g.I.Source.told l.input;
      written : g.I.Source.told l.fn.input → HasWritten (shown l.fn.pool) (shown l.pool) (left l.fn.input) (left l.input) l.sector;
    }
