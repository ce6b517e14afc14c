-- The lines so far are answered; at most the rest of a script's limit is left.
use Rattle.std.proofs.Common.{◌-◌, ◌^◌, ◌≤◌, ◌++◌}
use Rattle.pool.specs.View.{bay_in, view}
use Rattle.pool.specs.Proceeding.{Proceeds}
use Rattle.shr_script.specs.Pieces.{pending, taken_by}
use Rattle.shr_tool.proofs.History.{History}
use Rattle.shr_tool.proofs.Limits.{Passed}
use Rattle.shr_tool.proofs.serve.answer_script.Given as goal

abbrev pub invariant-lines : goal.invariant-lines
invariant-lines g l =
    let shown = view g.R.Rack.seen g.R.Bay.shelf in
    let left = g.I.Source.left in
    let taken = g.O.Sink.taken in
    record {
      frame : g.R.Bay.frame (bay_in l.fn.pool) (bay_in l.pool);
      proceeds : Proceeds (shown l.fn.pool) (shown l.pool);
      source : g.I.Source.faults l.fn.input ≤ g.I.Source.faults l.input;
      sink : g.O.Sink.faults l.fn.out ≤ g.O.Sink.faults l.out;
      source_told : g.I.Source.told l.fn.input → g.I.Source.told l.input;
      sink_told : g.O.Sink.told l.fn.out → g.O.Sink.told l.out;
      within : taken_by l.reader ≤ 2 ^ 32;
      passed :
          g.I.Source.told l.fn.input
          → Passed (left l.fn.input) (pending l.reader ++ left l.input) l.reader.consumed;
      history :
          g.I.Source.told l.fn.input
          → g.O.Sink.told l.fn.out
          → History (shown l.fn.pool) (shown l.pool) (left l.fn.input) (pending l.reader ++ left l.input) l.reader.consumed (taken l.fn.out) (taken l.out) l.worst;
    }

abbrev pub decreases-lines : goal.decreases-lines
decreases-lines g l = 2 ^ 32 - l.reader.consumed
