use Rattle.std.specs.List.{list_all, range_with_len}
use Rattle.std.proofs.Common.{◌≡◌, true, take}
use Rattle.pool.specs.Replacing.{has_layer}
use Rattle.pool.specs.View.{book, view}
use Rattle.pool.proofs.Pool.has_layers.Given as goal

abbrev pub invariant-loop-number : goal.invariant-loop-number
invariant-loop-number g l =
    let v = book (view g.R.Rack.seen g.R.Bay.shelf l.self) in
    list_all (has_layer v l.place l.units) (take l.number (range_with_len 0 v.state.made)) ≡ true
