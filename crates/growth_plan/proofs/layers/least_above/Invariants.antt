use Rattle.std.proofs.Common.{◌≡◌, drop}
use Rattle.growth_plan.specs.Target.{least_above}
use Rattle.growth_plan.proofs.Cuts.{lesser}
use Rattle.growth_plan.proofs.layers.least_above.Given as goal

abbrev pub invariant-loop-own : goal.invariant-loop-own
invariant-loop-own l = lesser l.cut (least_above l.fn.level (drop l.own-index l.units)) ≡ least_above l.fn.level l.units
