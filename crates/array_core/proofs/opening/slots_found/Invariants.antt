use Rattle.std.proofs.Common.{◌≡◌, map, length}
use Rattle.std.specs.List.{range_with_len}
use Rattle.array_core.specs.Slots.{place_by}
use Rattle.array_core.specs.Opening.{slot_by, super_at}
use Rattle.array_core.proofs.opening.slots_found.Given as goal

abbrev pub invariant-loop-position : goal.invariant-loop-position
invariant-loop-position l = record {
  made : l.slots.items ≡ map (λ place. slot_by place (super_at l.found place)) (map (place_by l.truth) (range_with_len 0 l.position));
  many : length l.slots.items ≡ l.position;
}
