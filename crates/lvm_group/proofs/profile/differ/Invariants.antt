use Rattle.std.proofs.Common.{◌≡◌, length}
use Rattle.lvm_group.specs.Group.{differ}
use Rattle.lvm_group.proofs.profile.differ.Given as goal

abbrev pub invariant-loop-pv : goal.invariant-loop-pv
invariant-loop-pv l = differ l.rest ≡ differ l.pvs

abbrev pub decreases-loop-pv : goal.decreases-loop-pv
decreases-loop-pv l = length l.rest
