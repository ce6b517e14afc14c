use Rattle.std.proofs.Common.{◌≡◌, map, length}
use Rattle.std.specs.List.{range_with_len}
use Rattle.array_core.specs.Slots.{place_by}
use Rattle.array_core.specs.Superblocks.{adopted_slot}
use Rattle.array_core.proofs.superblocks.adopted_slots.Given as goal

abbrev pub invariant-loop-position : goal.invariant-loop-position
invariant-loop-position l = record {
  made : l.adopted.items ≡ map (adopted_slot l.slots l.change) (map (place_by l.change.truth) (range_with_len 0 l.position));
  many : length l.adopted.items ≡ l.position;
}
