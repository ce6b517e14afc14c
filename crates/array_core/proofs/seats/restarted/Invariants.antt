use Rattle.std.proofs.Common.{◌≡◌, map, take, length}
use Rattle.array_core.specs.Seats.{restarted_slot}
use Rattle.array_core.proofs.seats.restarted.Given as goal

abbrev pub invariant-loop-slot : goal.invariant-loop-slot
invariant-loop-slot l = record {
  made : l.changed.items ≡ map (restarted_slot l.size) (take l.slot-index l.slots);
  many : length l.changed.items ≡ l.slot-index;
}
