use Rattle.std.proofs.Common.{◌≡◌, ◌++◌, length}
use Rattle.lvm_group.specs.Group.{runs_from}
use Rattle.lvm_group.proofs.profile.runs_from.Given as goal

abbrev pub invariant-loop-segment : goal.invariant-loop-segment
invariant-loop-segment l = l.runs.items ++ runs_from l.rest ≡ runs_from l.segments

abbrev pub decreases-loop-segment : goal.decreases-loop-segment
decreases-loop-segment l = length l.rest
