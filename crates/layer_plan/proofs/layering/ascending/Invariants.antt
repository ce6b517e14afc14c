use Rattle.std.proofs.Common.{◌≡◌, take}
use Rattle.layer_plan.proofs.layering.ascending.Given as goal

abbrev pub invariant-loop-own : goal.invariant-loop-own
invariant-loop-own l = l.ordered.items ≡ take l.own-index l.units
