use Rattle.std.proofs.Common.{◌≡◌, ◌+◌, ◌≤◌, ◌++◌, length}
use Rattle.lvm_group.specs.Growth.{pieces}
use Rattle.lvm_group.proofs.growth.pieces.Given as goal

abbrev pub invariant-loop-number : goal.invariant-loop-number
invariant-loop-number l = record {
  found : l.found.items ++ pieces l.array l.runs l.rest ≡ pieces 0 l.runs l.numbers;
  few : length l.found.items + length l.rest ≤ 16;
  array : l.array + length l.rest ≡ length l.numbers;
}

abbrev pub decreases-loop-number : goal.decreases-loop-number
decreases-loop-number l = length l.rest
