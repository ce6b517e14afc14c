use Rattle.std.proofs.Common.{◌≡◌, ◌≤◌, ◌++◌, length, drop}
use Rattle.layer_plan.proofs.Reached.{layers_above}
use Rattle.layer_plan.proofs.layering.layers_of.Given as goal

abbrev pub invariant-loop-upper : goal.invariant-loop-upper
invariant-loop-upper l = record {
  left : l.layers.items ++ layers_above l.fn.units l.lower (drop l.upper-index l.upper-items) ≡ layers_above l.fn.units 0 l.upper-items;
  few : length l.layers.items ≤ l.upper-index;
}
