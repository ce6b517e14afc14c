use Rattle.std.proofs.Common.{arith, ◌∙◌, ap, ℕ, length}
use Rattle.arrayvec.specs.ArrayVec.{ArrayVec}
use Rattle.layer_plan.proofs.Steps.{reaching_yes, reaching_no}
use Rattle.layer_plan.proofs.layering.reaching.Goals as goal
use Rattle.layer_plan.proofs.layering.reaching.Goals.{then-level-own, else-level-own}

pub loop-place-preserved : goal.loop-place-preserved
loop-place-preserved c =
    elim c.if-level-own.branch [
      | then-level-own w ↦
          let more = reaching_yes c.args.level c.loop-place.place c.args.units.now c.loop-place.places.items
          c.loop-place.invariant.kept w.if-level-own.true in
          record {
            kept = ap (λ (v : ArrayVec ℕ). v.items) w.places-is ∙ w.push.ensures.items ∙ more;
            few = omega (arith, ap (λ (v : ArrayVec ℕ). length v.items) w.places-is, w.push.ensures.len);
          }
      | else-level-own w ↦
          let more = reaching_no c.args.level c.loop-place.place c.args.units.now c.loop-place.places.items
          c.loop-place.invariant.kept w.if-level-own.false in
          record {
            kept = ap (λ (v : ArrayVec ℕ). v.items) w.places-is ∙ more;
            few = omega (arith, ap (λ (v : ArrayVec ℕ). length v.items) w.places-is);
          }
    ]
