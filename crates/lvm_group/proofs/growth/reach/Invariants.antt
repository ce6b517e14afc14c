use Rattle.std.proofs.Common.{◌≡◌, ◌^◌, ◌<◌, length}
use Rattle.std.specs.Prelude.{max}
use Rattle.lvm_group.specs.Growth.{reach}
use Rattle.lvm_group.proofs.growth.reach.Given as goal

abbrev pub invariant-loop-run : goal.invariant-loop-run
invariant-loop-run l = (max l.end (reach l.array l.rest) ≡ reach l.array l.runs) × (l.end < 2 ^ 66)

abbrev pub decreases-loop-run : goal.decreases-loop-run
decreases-loop-run l = length l.rest
