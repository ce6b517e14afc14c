use Rattle.std.proofs.Common.{◌≡◌, ◌≤◌, ◌||◌, filter, length}
use Rattle.std.specs.List.{range_with_len}
use Rattle.array_core.specs.Seats.{names}
use Rattle.array_core.proofs.seats.joined.Given as goal

abbrev pub invariant-loop-place : goal.invariant-loop-place
invariant-loop-place l = record {
  made : l.places.items ≡ filter (λ p. names l.first.items p || names l.second.items p) (range_with_len 0 l.place);
  few : length l.places.items ≤ l.place;
}
