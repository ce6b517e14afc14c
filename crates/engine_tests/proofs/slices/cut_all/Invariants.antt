use Rattle.slice_rack.specs.Sliced.{slices_of}
use Rattle.slice_rack.specs.SliceRack.{tables, below_of}
use Rattle.engine_tests.proofs.slices.cut_all.Given as goal

abbrev pub invariant-loop-place : goal.invariant-loop-place
invariant-loop-place g l = (slices_of (tables l.slices) (g.R.Rack.seen (below_of l.slices))).fit
