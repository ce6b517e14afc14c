use Rattle.std.proofs.Common.{◌≡◌}
use Rattle.slice_rack.specs.Sliced.{slices_of}
use Rattle.slice_rack.specs.SliceRack.{tables, below_of}
use Rattle.pool_check.specs.Drives.{seats_by}
use Rattle.pool_check.specs.Laying.{HasLogsOnly, IsLaidTo, KeepsLogs}
use Rattle.pool_check.proofs.laying.lay_members.Given as goal

abbrev pub invariant-loop-number : goal.invariant-loop-number
invariant-loop-number g l = record {
  below : below_of l.slices ≡ below_of l.fn.slices;
  fit : (slices_of (tables l.slices) (g.R.Rack.seen (below_of l.slices))).fit;
  logs : HasLogsOnly (tables l.slices) (seats_by l.seats);
  kept : KeepsLogs (tables l.fn.slices) (tables l.slices);
  laid : IsLaidTo (seats_by l.seats) l.checked.arrays.items l.checked.extents.items l.number 0 (tables l.slices);
}
