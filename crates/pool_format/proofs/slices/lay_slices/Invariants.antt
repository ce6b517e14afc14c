use Rattle.std.proofs.Common.{◌≡◌, ◌*◌}
use Rattle.slice_rack.specs.Sliced.{slices_of}
use Rattle.slice_rack.specs.SliceRack.{tables, below_of}
use Rattle.pool_format.specs.Slices.{AreLaid}
use Rattle.pool_format.proofs.slices.lay_slices.Given as goal

abbrev pub invariant-loop-place : goal.invariant-loop-place
invariant-loop-place g l = record {
  below : below_of l.slices ≡ l.fn.rack;
  fit : (slices_of (tables l.slices) (g.R.Rack.seen (below_of l.slices))).fit;
  laid : AreLaid l.plan.arrays.items l.place (17 * l.place) (tables l.slices);
}
