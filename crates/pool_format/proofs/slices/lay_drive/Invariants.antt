use Rattle.std.proofs.Common.{◌≡◌, ◌+◌, ◌*◌}
use Rattle.slice_rack.specs.Sliced.{slices_of}
use Rattle.slice_rack.specs.SliceRack.{tables, below_of}
use Rattle.pool_format.specs.Slices.{AreLaid}
use Rattle.pool_format.proofs.slices.lay_drive.Given as goal

abbrev pub invariant-loop-number : goal.invariant-loop-number
invariant-loop-number g l = record {
  below : below_of l.slices ≡ below_of l.fn.slices;
  fit : (slices_of (tables l.slices) (g.R.Rack.seen (below_of l.slices))).fit;
  laid : AreLaid l.plan.arrays.items (l.place + 1) (17 * l.place + l.number + 1) (tables l.slices);
}
