use Rattle.std.proofs.Common.{◌≡◌, ◌+◌}
use Rattle.slice_rack.specs.Sliced.{slices_of}
use Rattle.slice_rack.specs.SliceRack.{tables, below_of}
use Rattle.raid_laws.specs.NewDrive.{AreLaid, SeatsFirst}
use Rattle.raid_rack.proofs.new_drive.seat_drive.Given as goal

abbrev pub invariant-loop-number : goal.invariant-loop-number
invariant-loop-number g l = record {
  below : below_of l.slices ≡ below_of l.fn.slices;
  fit : (slices_of (tables l.slices) (g.R.Rack.seen (below_of l.slices))).fit;
  laid : AreLaid (g.R.Rack.seen (below_of l.fn.slices)) l.arrays l.place l.sectors (l.number + 1) (tables l.slices);
  others : SeatsFirst l.place l.disk (tables l.fn.slices) (tables l.slices);
}
