-- Each array below the number has its line.
use Rattle.std.specs.List.{range_with_len}
use Rattle.std.proofs.Common.{◌≡◌, ◌≤◌, ◌+◌, ◌*◌, ◌++◌}
use Rattle.std.specs.Prelude.{flat_map}
use Rattle.arrayvec.specs.ArrayVec.{array_vec_len}
use Rattle.pool.specs.View.{book, view}
use Rattle.shr_tool.specs.StatusText.{array_line}
use Rattle.shr_tool.proofs.showing.add_arrays.Given as goal

abbrev pub invariant-loop-number : goal.invariant-loop-number
invariant-loop-number g l = record {
  items : l.text.items ≡ l.fn.text.items ++ flat_map (λ n. array_line n ((book (view g.R.Rack.seen g.R.Bay.shelf l.pool)).arrays n)) (range_with_len 0 l.number);
  len : array_vec_len l.text ≤ array_vec_len l.fn.text + 150 * l.number;
}
