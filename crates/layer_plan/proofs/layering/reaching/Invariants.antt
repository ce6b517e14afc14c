use Rattle.std.proofs.Common.{◌≡◌, ◌≤◌, length, filter, slice_index, nat_le}
use Rattle.std.specs.List.{range_with_len}
use Rattle.layer_plan.proofs.layering.reaching.Given as goal

abbrev pub invariant-loop-place : goal.invariant-loop-place
invariant-loop-place l = record {
  kept : l.places.items ≡ filter (λ k. nat_le l.fn.level (slice_index l.fn.units k)) (range_with_len 0 l.place);
  few : length l.places.items ≤ l.place;
}
