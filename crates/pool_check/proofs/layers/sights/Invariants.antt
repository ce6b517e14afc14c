use Rattle.std.proofs.Common.{◌≡◌, length, map}
use Rattle.std.specs.List.{range_with_len}
use Rattle.pool_check.specs.Layers.{sights_by}
use Rattle.pool_check.proofs.layers.sights.Given as goal

abbrev pub invariant-loop-place : goal.invariant-loop-place
invariant-loop-place l = record {
  made : l.sights.items ≡ map (sights_by l.truth l.found) (range_with_len 0 l.place);
  many : length l.sights.items ≡ l.place;
}
