use Rattle.std.proofs.Common.{◌≡◌, ◌≤◌, ◌+◌, take, length}
use Rattle.array_core.specs.Staging.{AddsSupers}
use Rattle.array_core.proofs.staging.stage_slots.Given as goal

abbrev pub invariant-loop-slot : goal.invariant-loop-slot
invariant-loop-slot l = record {
  added : AddsSupers l.number l.truth (take l.slot-index l.slots) l.fn.log.added l.log.added;
  few : length l.log.added ≤ length l.fn.log.added + l.slot-index;
  log : l.log ≡ record l.fn.log { added = l.log.added };
}
