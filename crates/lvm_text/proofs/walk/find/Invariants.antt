use Rattle.std.proofs.Common.{◌≡◌, ◌+◌, ◌≤◌, length}
use Rattle.lvm_text.specs.Group.{found_at}
use Rattle.lvm_text.proofs.walk.find.Given as goal

abbrev pub invariant-loop-word : goal.invariant-loop-word
invariant-loop-word l = (found_at l.name l.depth l.rest ≡ found_at l.name 0 l.words) × (l.depth + length l.rest ≤ length l.words)

abbrev pub decreases-loop-word : goal.decreases-loop-word
decreases-loop-word l = length l.rest
