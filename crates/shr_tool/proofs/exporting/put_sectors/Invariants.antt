-- The sectors before the one in hand are put.
use Rattle.std.proofs.Common.{◌≡◌, ◌≤◌, ◌++◌}
use Rattle.flat_array.specs.Array.{FlatArray}
use Rattle.pool.specs.View.{bay_in, view}
use Rattle.pool.specs.Calls.{CallFrame}
use Rattle.pool.specs.Volume.{VolumeIs}
use Rattle.shr_tool.specs.Exporting.{bytes_of, reads_of}
use Rattle.shr_tool.specs.Serving.{Ran}
use Rattle.shr_tool.proofs.exporting.put_sectors.Given as goal

abbrev pub invariant-loop-sector : goal.invariant-loop-sector
invariant-loop-sector g l =
    let shown = view g.R.Rack.seen g.R.Bay.shelf in
    let taken = g.O.Sink.taken in
    record {
      until : l.sector ≤ l.size;
      runs : g.R.Rack.runs (bay_in l.fn.pool) (bay_in l.pool);
      passes : CallFrame (shown l.fn.pool) (shown l.pool);
      ran : Ran (shown l.fn.pool) (shown l.pool) (reads_of l.sector);
      sink : g.O.Sink.faults l.fn.out ≤ g.O.Sink.faults l.out;
      told : g.O.Sink.told l.fn.out → g.O.Sink.told l.out;
      put : g.O.Sink.told l.fn.out → (a : FlatArray) → VolumeIs (shown l.fn.pool) a → taken l.out ≡ taken l.fn.out ++ bytes_of a l.sector;
    }
