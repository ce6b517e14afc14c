-- The turns before the one in hand are taken.
use Rattle.std.proofs.Common.{◌≡◌, ◌-◌, ◌*◌, ◌≤◌}
use Rattle.pool.specs.View.{bay_in, view}
use Rattle.pool.specs.Calls.{CallFrame}
use Rattle.shr_tool.specs.Trial.{IsSmall, state_at, turns_over}
use Rattle.shr_tool.proofs.Tried.{HasTried}
use Rattle.shr_tool.proofs.trial.take_turns.Given as goal

abbrev pub invariant-loop-tally : goal.invariant-loop-tally
invariant-loop-tally g l =
    let shown = view g.R.Rack.seen g.R.Bay.shelf in
    record {
      until : l.tally.turns ≤ l.turns;
      small : IsSmall l.tally;
      many : l.turns ≡ turns_over l.span;
      state : l.generator.state ≡ state_at l.seed (3 * l.tally.turns);
      runs : g.R.Rack.runs (bay_in l.fn.pool) (bay_in l.pool);
      passes : CallFrame (shown l.fn.pool) (shown l.pool);
      tried : HasTried (shown l.fn.pool) (shown l.pool) l.span l.seed l.tally;
    }

abbrev pub decreases-loop-tally : goal.decreases-loop-tally
decreases-loop-tally g l = l.turns - l.tally.turns
