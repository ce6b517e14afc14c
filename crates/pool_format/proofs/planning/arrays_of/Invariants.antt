use Rattle.std.proofs.Common.{◌≡◌, ◌++◌, drop, length}
use Rattle.array_image.specs.Places.{arrays_first}
use Rattle.pool_format.specs.Plan.{arrays_from, slices_before}
use Rattle.pool_format.proofs.planning.arrays_of.Given as goal

-- those up to here, and where the next one's slices begin
abbrev pub invariant-loop-layer : goal.invariant-loop-layer
invariant-loop-layer l = record {
  made : l.arrays.items ++ arrays_from l.first l.extent (drop l.layer-index l.layers) ≡ arrays_from arrays_first l.extent l.layers;
  many : length l.arrays.items ≡ l.layer-index;
  before : l.first ≡ slices_before l.extent l.layer-index l.layers;
}
