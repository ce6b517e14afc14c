use Rattle.std.proofs.Common.{◌≡◌, map, take, length}
use Rattle.array_core.specs.Seats.{reseated}
use Rattle.array_core.proofs.seats.reseated.Given as goal

abbrev pub invariant-loop-slot : goal.invariant-loop-slot
invariant-loop-slot l = record {
  made : l.changed.items ≡ map (reseated l.places l.seat l.device) (take l.slot-index l.slots);
  many : length l.changed.items ≡ l.slot-index;
}
