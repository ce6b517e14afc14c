use Rattle.std.proofs.Common.{◌≡◌, ◌+◌, ◌*◌, ◌^◌, ◌≤◌, length}
use Rattle.lvm_group.specs.Group.{follow}
use Rattle.lvm_group.proofs.profile.follow.Given as goal

abbrev pub invariant-loop-segment : goal.invariant-loop-segment
invariant-loop-segment l = (follow l.start l.rest ≡ follow 0 l.segments) × (l.start + 2 ^ 64 * length l.rest ≤ 2 ^ 64 * length l.segments)

abbrev pub decreases-loop-segment : goal.decreases-loop-segment
decreases-loop-segment l = length l.rest
