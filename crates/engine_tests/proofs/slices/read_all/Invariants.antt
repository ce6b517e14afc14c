use Rattle.engine_tests.proofs.slices.read_all.Given as goal

abbrev pub invariant-loop-disk : goal.invariant-loop-disk
invariant-loop-disk g l = (g.R.Rack.seen l.rack).fit
