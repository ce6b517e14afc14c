use Rattle.std.proofs.Common.{◌≡◌, length}
use Rattle.std.specs.List.{list_all}
use Rattle.lvm_group.specs.Group.{lies_in}
use Rattle.lvm_group.proofs.profile.all_lie.Given as goal

abbrev pub invariant-loop-run : goal.invariant-loop-run
invariant-loop-run l = list_all (lies_in l.pvs) l.rest ≡ list_all (lies_in l.pvs) l.runs

abbrev pub decreases-loop-run : goal.decreases-loop-run
decreases-loop-run l = length l.rest
