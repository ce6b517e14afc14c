use Rattle.std.proofs.Common.{◌≡◌, ℕ, ◌^◌, ◌<◌, ◌≤◌, List, length, All, sum, sum_by, map, arith, ap}
use Rattle.std.proofs.lemmas.List.Sums.{sum_by-le}
use Rattle.std.proofs.lemmas.List.Elements.{All-weaker}
use Rattle.layer_plan.specs.declared.Layer.{Layer}
use Rattle.layer_plan.specs.Slicing.{slicing_capacity}
use Rattle.layer_plan.specs.Layering.{array_of}
use Rattle.layer_plan.proofs.UpperBound.{within_bound}
use Rattle.layer_plan.proofs.layout.Goals as goal

-- sixteen drives have few units together
few_units : (units : List ℕ) → length units ≤ 16 → All (λ own. own < 2 ^ 41) units → sum units < 2 ^ 64
few_units units short small =
    omega (arith, sum_by-le (λ u. u) (2 ^ 41) units (All-weaker (λ u. u < 2 ^ 41) (λ u. u ≤ 2 ^ 41) (λ u h. omega arith) units small))

pub total_units-requires : goal.total_units-requires
total_units-requires c = few_units c.args.units.now c.if-units-gt-MAX_DRIVES.false c.requires

pub total_extents-capacity-requires : goal.total_extents-capacity-requires
total_extents-capacity-requires c =
    let few = few_units c.args.units.now c.if-units-gt-MAX_DRIVES.false c.requires in
    let whole = c.layers_of-layers.ensures.whole c.largest_drive-spared.result c.largest_drive-spared.ensures in
    let same = ap (λ (ls : List Layer). sum_by (λ layer. layer.extents) ls) c.deref.ensures.0 in
    omega (arith, c.layers_of-layers.ensures.extents)

pub returns-clause-best : goal.returns-clause-best
returns-clause-best c =
    let units = c.args.units.now in
    let spared = c.largest_drive-spared.result in
    let whole = c.layers_of-layers.ensures.whole spared c.largest_drive-spared.ensures in
    let same = ap (λ (ls : List Layer). sum_by (λ layer. layer.extents) ls) c.deref.ensures.0 in
    let total : slicing_capacity (map array_of c.layers_of-layers.result.items) ≡ c.total_extents-capacity.result =
    omega (arith, c.layers_of-layers.ensures.extents, c.total_extents-capacity.ensures) in
    record {
      arrays = map array_of c.layers_of-layers.result.items;
      slicing = c.layers_of-layers.ensures.slicing;
      reached = total;
      greatest = λ others slicing.
          let below = within_bound units others spared c.largest_drive-spared.ensures.0 slicing in
          omega arith;
    }
