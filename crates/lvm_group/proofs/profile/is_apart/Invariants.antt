use Rattle.std.proofs.Common.{◌≡◌, length}
use Rattle.std.specs.List.{list_all}
use Rattle.lvm_group.specs.Group.{are_apart}
use Rattle.lvm_group.proofs.profile.is_apart.Given as goal

abbrev pub invariant-loop-other : goal.invariant-loop-other
invariant-loop-other l = list_all (are_apart l.run) l.rest ≡ list_all (are_apart l.run) l.others

abbrev pub decreases-loop-other : goal.decreases-loop-other
decreases-loop-other l = length l.rest
