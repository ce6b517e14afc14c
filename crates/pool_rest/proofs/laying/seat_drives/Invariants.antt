use Rattle.std.proofs.Common.{◌≡◌}
use Rattle.slice_rack.specs.Sliced.{slices_of}
use Rattle.slice_rack.specs.SliceRack.{tables, below_of}
use Rattle.pool_rest.specs.Laying.{IsLaidBelow}
use Rattle.pool_rest.proofs.laying.seat_drives.Given as goal

abbrev pub invariant-loop-place : goal.invariant-loop-place
invariant-loop-place g l = record {
  below : below_of l.slices ≡ below_of l.fn.slices;
  fit : (slices_of (tables l.slices) (g.R.Rack.seen (below_of l.slices))).fit;
  laid : IsLaidBelow (g.R.Rack.seen (below_of l.fn.slices)) l.scan.disks.items l.state l.place (tables l.slices) l.on.items;
}
