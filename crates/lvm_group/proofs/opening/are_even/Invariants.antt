use Rattle.std.proofs.Common.{◌≡◌, length}
use Rattle.std.specs.List.{list_all}
use Rattle.lvm_group.specs.Opening.{says}
use Rattle.lvm_group.proofs.opening.are_even.Given as goal

abbrev pub invariant-loop-part : goal.invariant-loop-part
invariant-loop-part l = list_all (says l.seqno) l.rest ≡ list_all (says l.seqno) l.parts

abbrev pub decreases-loop-part : goal.decreases-loop-part
decreases-loop-part l = length l.rest
