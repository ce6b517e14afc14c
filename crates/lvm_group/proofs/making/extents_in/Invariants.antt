use Rattle.std.proofs.Common.{◌≡◌, ◌+◌, length}
use Rattle.lvm_group.specs.Runs.{extents_of}
use Rattle.lvm_group.proofs.making.extents_in.Given as goal

abbrev pub invariant-loop-run : goal.invariant-loop-run
invariant-loop-run l = l.sum + extents_of l.rest ≡ extents_of l.runs

abbrev pub decreases-loop-run : goal.decreases-loop-run
decreases-loop-run l = length l.rest
