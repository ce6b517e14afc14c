use Rattle.std.proofs.Common.{◌≡◌, length}
use Rattle.lvm_group.specs.Group.{pv_of}
use Rattle.lvm_group.proofs.profile.extents_of.Given as goal

abbrev pub invariant-loop-pv : goal.invariant-loop-pv
invariant-loop-pv l = pv_of l.rest l.array ≡ pv_of l.pvs l.array

abbrev pub decreases-loop-pv : goal.decreases-loop-pv
decreases-loop-pv l = length l.rest
