use Rattle.std.proofs.Common.{◌≡◌, map}
use Rattle.std.specs.List.{range_with_len}
use Rattle.pool.specs.View.{book, view}
use Rattle.pool.specs.Works.{array_now}
use Rattle.pool.proofs.Pool.progress.Given as goal

abbrev pub invariant-loop-number : goal.invariant-loop-number
invariant-loop-number g l = l.arrays.items ≡ map (λ n. array_now l.extent ((book (view g.R.Rack.seen g.R.Bay.shelf l.self)).arrays n)) (range_with_len 0 l.number)
