use Rattle.std.proofs.Common.{◌≡◌, ◌++◌, ℕ, Some, drop, length, slice_get}
use Rattle.array_model.specs.View.{View, IsArray}
use Rattle.pool_format.specs.Arrays.{new_views}
use Rattle.pool_format.proofs.arrays.new_arrays.Given as goal

-- those up to here
abbrev pub invariant-loop-number : goal.invariant-loop-number
invariant-loop-number l = record {
  made : l.arrays.items ++ new_views l.birth l.number (drop l.number l.plan.arrays.items) ≡ new_views l.birth 0 l.plan.arrays.items;
  are : (n : ℕ) (v : View) → slice_get l.arrays.items n ≡ Some v → IsArray v;
  many : length l.arrays.items ≡ l.number;
}
