use Rattle.std.specs.List.{list_all, range_with_len}
use Rattle.std.proofs.Common.{◌≡◌, true, length, take}
use Rattle.pool.specs.Growing.{holds_number}
use Rattle.pool.specs.View.{book, view}
use Rattle.pool.proofs.Pool.hold_numbers.Given as goal

abbrev pub invariant-loop-array : goal.invariant-loop-array
invariant-loop-array g l =
    list_all (holds_number (book (view g.R.Rack.seen g.R.Bay.shelf l.self)) l.numbers l.extent) (take l.array (range_with_len 0 (length l.numbers))) ≡ true
