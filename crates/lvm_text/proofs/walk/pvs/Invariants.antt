use Rattle.std.proofs.Common.{◌≡◌, ◌+◌, ◌≤◌, length}
use Rattle.lvm_text.specs.Group.{each_at, pv_at}
use Rattle.lvm_text.proofs.Faults.{with_front}
use Rattle.lvm_text.proofs.walk.pvs.Given as goal

abbrev pub invariant-loop-word : goal.invariant-loop-word
invariant-loop-word l = (with_front l.pvs (each_at pv_at l.depth l.rest) ≡ each_at pv_at 0 l.words) × (l.depth + length l.rest ≤ length l.words)

abbrev pub decreases-loop-word : goal.decreases-loop-word
decreases-loop-word l = length l.rest
