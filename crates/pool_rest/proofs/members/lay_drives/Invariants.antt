use Rattle.rack.specs.Sequences.{OnlyReads}
use Rattle.slice_rack.specs.Sliced.{slices_of}
use Rattle.slice_rack.specs.SliceRack.{tables, below_of}
use Rattle.pool_rest.specs.Members.{IsCutBelow}
use Rattle.pool_rest.proofs.members.lay_drives.Given as goal

abbrev pub invariant-loop-place : goal.invariant-loop-place
invariant-loop-place g l = record {
  only : OnlyReads (g.R.Rack.seen (below_of l.initial.slices)) (g.R.Rack.seen (below_of l.slices));
  fit : (slices_of (tables l.slices) (g.R.Rack.seen (below_of l.slices))).fit;
  cut : IsCutBelow (g.R.Rack.seen (below_of l.initial.slices)) (g.R.Rack.seen (below_of l.slices)) l.place (tables l.initial.slices) (tables l.slices) l.unread.items;
  runs : g.R.Rack.runs (below_of l.initial.slices) (below_of l.slices);
}
