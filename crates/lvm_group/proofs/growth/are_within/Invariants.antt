use Rattle.std.proofs.Common.{◌≡◌, length}
use Rattle.std.specs.List.{list_all}
use Rattle.lvm_group.specs.Growth.{is_within}
use Rattle.lvm_group.proofs.growth.are_within.Given as goal

abbrev pub invariant-loop-run : goal.invariant-loop-run
invariant-loop-run l = list_all (is_within l.numbers) l.rest ≡ list_all (is_within l.numbers) l.runs

abbrev pub decreases-loop-run : goal.decreases-loop-run
decreases-loop-run l = length l.rest
