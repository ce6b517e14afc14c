use Rattle.std.proofs.Common.{◌≡◌, length}
use Rattle.std.specs.Prelude.{replicate}
use Rattle.pool_check.specs.declared.Sight.TheVariants.{Stranger}
use Rattle.pool_check.proofs.layers.strangers.Given as goal

abbrev pub invariant-loop-place : goal.invariant-loop-place
invariant-loop-place l = record { made : l.sights.items ≡ replicate l.place Stranger; many : length l.sights.items ≡ l.place }
