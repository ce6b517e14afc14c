use Rattle.std.proofs.Common.{◌≡◌}
use Rattle.slice_rack.specs.Sliced.{slices_of}
use Rattle.slice_rack.specs.SliceRack.{tables, below_of}
use Rattle.pool_rest.specs.Members.{IsCutTo, KeepsOthers}
use Rattle.pool_rest.proofs.members.lay_members.Given as goal

abbrev pub invariant-loop-array : goal.invariant-loop-array
invariant-loop-array g l = record {
  below : below_of l.slices ≡ below_of l.initial.slices;
  fit : (slices_of (tables l.slices) (g.R.Rack.seen (below_of l.slices))).fit;
  others : KeepsOthers (tables l.initial.slices) (tables l.slices) l.place;
  cut : IsCutTo (g.R.Rack.seen (below_of l.initial.slices)) (tables l.slices) l.table l.place l.array;
}
