use Rattle.std.proofs.Common.{◌≡◌, ◌≤◌, filter, length}
use Rattle.std.specs.List.{range_with_len}
use Rattle.array_image.specs.States.{is_current}
use Rattle.raid_rack.proofs.marks.current_places.Given as goal

abbrev pub invariant-loop-place : goal.invariant-loop-place
invariant-loop-place l = record {
  made : l.places.items ≡ filter (is_current l.state) (range_with_len 0 l.place);
  few : length l.places.items ≤ l.place;
}
