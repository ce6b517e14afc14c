-- The bytes past the count are zeros.
use Rattle.std.proofs.Common.{◌≡◌, ◌≤◌, take}
use Rattle.shr_script.specs.Reply.{without_zeros}
use Rattle.shr_script.proofs.reply.without_zero_groups.Given as goal

abbrev pub invariant-loop-count : goal.invariant-loop-count
invariant-loop-count l =
    record {
      same : without_zeros (take l.count l.bytes) ≡ without_zeros l.bytes;
      within : l.count ≤ 512;
    }

abbrev pub decreases-loop-count : goal.decreases-loop-count
decreases-loop-count l = l.count
