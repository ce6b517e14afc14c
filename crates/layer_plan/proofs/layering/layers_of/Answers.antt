use Rattle.std.proofs.Common.{◌∷◌, ◌<◌, ◌^◌, arith, length, ap, ◌∙◌}
use Rattle.std.proofs.lemmas.List.Sorted.{All-permutation}
use Rattle.arrayvec.specs.ArrayVec.{ArrayVec}
use Rattle.layer_plan.specs.declared.Layer.{Layer}
use Rattle.layer_plan.proofs.Reached.{rungs, layers_redundant, layers_fit, extents_above}
use Rattle.layer_plan.proofs.CutPoints.{cut_points}
use Rattle.layer_plan.proofs.Totals.{capacity_of_layers}
use Rattle.layer_plan.proofs.Pass.{layer_pushed, layer_skipped, level_stayed, pass_ended}
use Rattle.layer_plan.proofs.layering.layers_of.Goals as goal
use Rattle.layer_plan.proofs.layering.layers_of.Goals.{then-lower-upper+then-len-ge-FEWEST_MEMBERS, then-lower-upper+else-len-ge-FEWEST_MEMBERS, else-lower-upper}

pub loop-upper-init : goal.loop-upper-init
loop-upper-init c = record {
  left = rw c.new-layers.ensures;
  few = omega (arith, ap length c.new-layers.ensures);
}

pub between-layer-requires-clause-small : goal.between-layer-requires-clause-small
between-layer-requires-clause-small c =
    let small = All-permutation (λ own. own < 2 ^ 41) c.args.units.now c.ascending-ordered.result.items
    c.ascending-ordered.ensures.permutation c.requires.small in
    rw c.as_slice-upper-items.ensures.value
    (small c.loop-upper.upper-index 0 (omega (arith, c.loop-upper-test.true, ap length c.as_slice-upper-items.ensures.value)))

pub loop-upper-preserved : goal.loop-upper-preserved
loop-upper-preserved c =
    elim c.if-lower-upper.branch [
      | then-lower-upper+then-len-ge-FEWEST_MEMBERS w ↦ record {
        left = layer_pushed c.args.units.now c.as_slice-upper-items.result.now c.loop-upper.layers.items c.if-lower-upper.layers.items
            w.between-layer.result c.loop-upper.lower c.if-lower-upper.lower c.loop-upper.upper-index _
            c.loop-upper-test.true w.if-lower-upper.true w.between-layer.ensures (omega (arith, w.len.ensures.value))
            (ap (λ (v : ArrayVec Layer). v.items) w.layers-is ∙ w.push.ensures.items) w.lower-is c.loop-upper.invariant.left;
        few = omega (arith, ap (λ (v : ArrayVec Layer). length v.items) w.layers-is, w.push.ensures.len);
      }
      | then-lower-upper+else-len-ge-FEWEST_MEMBERS w ↦ record {
        left = layer_skipped c.args.units.now c.as_slice-upper-items.result.now c.loop-upper.layers.items c.if-lower-upper.layers.items
            w.between-layer.result c.loop-upper.lower c.if-lower-upper.lower c.loop-upper.upper-index _
            c.loop-upper-test.true w.if-lower-upper.true w.between-layer.ensures (omega (arith, w.len.ensures.value))
            (ap (λ (v : ArrayVec Layer). v.items) w.layers-is) w.lower-is c.loop-upper.invariant.left;
        few = omega (arith, ap (λ (v : ArrayVec Layer). length v.items) w.layers-is);
      }
      | else-lower-upper w ↦ record {
        left = level_stayed c.args.units.now c.as_slice-upper-items.result.now c.loop-upper.layers.items c.if-lower-upper.layers.items
            c.loop-upper.lower c.if-lower-upper.lower c.loop-upper.upper-index _
            c.loop-upper-test.true w.if-lower-upper.false
            (ap (λ (v : ArrayVec Layer). v.items) w.layers-is) w.lower-is c.loop-upper.invariant.left;
        few = omega (arith, ap (λ (v : ArrayVec Layer). length v.items) w.layers-is);
      }
    ]

pub returns : goal.returns
returns c =
    let units = c.args.units.now in
    let ordered = c.ascending-ordered.result.items in
    let moved = c.ascending-ordered.ensures.permutation in
    let rises = c.ascending-ordered.ensures.ordered in
    let is = pass_ended units ordered c.as_slice-upper-items.result.now c.loop-upper.layers.items c.loop-upper.lower c.loop-upper.upper-index
    c.as_slice-upper-items.ensures.value c.loop-upper-test.false c.loop-upper.invariant.left in
    record {
      layering = record { cuts = 0 ∷ rungs 0 ordered; cut_points = cut_points units ordered moved rises; between = is };
      slicing = rw is (record { redundant = layers_redundant units 0 ordered; fits = λ p inside. let fit = layers_fit units 0 ordered p inside in omega arith });
      extents = rw is (extents_above units 0 ordered);
      whole = λ spared most. rw is (capacity_of_layers units ordered spared moved rises most);
    }
