use Rattle.std.proofs.Common.{◌≡◌, ◌++◌, drop, length, map}
use Rattle.pool_format.specs.Data.{extents_of}
use Rattle.pool_format.proofs.volume.extents_of.Given as goal

-- those up to here
abbrev pub invariant-loop-number : goal.invariant-loop-number
invariant-loop-number l = record {
  made : l.extents.items ++ map (λ a. a.extents) (drop l.number l.plan.arrays.items) ≡ extents_of l.plan;
  many : length l.extents.items ≡ l.number;
}
