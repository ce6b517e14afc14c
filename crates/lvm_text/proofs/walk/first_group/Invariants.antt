use Rattle.std.proofs.Common.{◌≡◌, length}
use Rattle.lvm_text.specs.Group.{group_in}
use Rattle.lvm_text.proofs.walk.first_group.Given as goal

abbrev pub invariant-loop-word : goal.invariant-loop-word
invariant-loop-word l = group_in l.rest ≡ group_in l.words

abbrev pub decreases-loop-word : goal.decreases-loop-word
decreases-loop-word l = length l.rest
