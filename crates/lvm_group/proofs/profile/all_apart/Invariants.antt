use Rattle.std.proofs.Common.{◌≡◌, length}
use Rattle.lvm_group.specs.Group.{all_apart}
use Rattle.lvm_group.proofs.profile.all_apart.Given as goal

abbrev pub invariant-loop-run : goal.invariant-loop-run
invariant-loop-run l = all_apart l.rest ≡ all_apart l.runs

abbrev pub decreases-loop-run : goal.decreases-loop-run
decreases-loop-run l = length l.rest
