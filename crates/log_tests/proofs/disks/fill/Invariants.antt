use Rattle.log_tests.specs.Ready.{CanCommit}
use Rattle.log_tests.proofs.disks.fill.Given as goal

abbrev pub invariant-loop-disk : goal.invariant-loop-disk
invariant-loop-disk g l = CanCommit l.log.added (g.R.Rack.seen l.bay)
