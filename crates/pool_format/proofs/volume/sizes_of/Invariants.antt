use Rattle.std.proofs.Common.{◌≡◌, ◌++◌, ◌-◌, ◌*◌, drop, length, map}
use Rattle.pool_format.specs.Data.{sizes_of}
use Rattle.pool_format.proofs.volume.sizes_of.Given as goal

-- those up to here
abbrev pub invariant-loop-number : goal.invariant-loop-number
invariant-loop-number l = record {
  made : l.sizes.items ++ map (λ a. (length a.members.items - 1) * a.size) (drop l.number l.plan.arrays.items) ≡ sizes_of l.plan;
  many : length l.sizes.items ≡ l.number;
}
