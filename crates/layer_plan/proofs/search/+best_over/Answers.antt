use Rattle.std.proofs.Common.{◌≡◌, ◌∷◌, ◌*◌, ◌+◌, arith, ◌∙◌, sym, max}
use Rattle.layer_plan.proofs.Heights.{nothing_reached, tried_fitting, tried_lacking, tried_all, larger, small_product}
use Rattle.layer_plan.proofs.search.+best_over.Goals as goal
use Rattle.layer_plan.proofs.search.+best_over.Goals.{in-Some-lowered, in_default-lowered}

pub loop-height-init : goal.loop-height-init
loop-height-init t c = record {
  reached = nothing_reached (c.in-Some.set.now ∷ c.in-Some.others.now) c.args.units.now;
  tried = λ h hs below fits. absurd (omega arith);
  bound = omega arith;
}

pub loop-height-preserved : goal.loop-height-preserved
loop-height-preserved t c =
    elim c.match-lowered.branch [
      | in-Some-lowered w ↦
          let now : c.match-lowered.best ≡ max c.loop-height.best (w.data_members.result * c.loop-height.height + w.best_over.result) =
          w.best-is ∙ w.max-best.ensures ∙ larger c.loop-height.best (w.data_members.result * c.loop-height.height + w.best_over.result) in
          let more = tried_fitting c.in-Some.set.now c.in-Some.others.now c.args.units.now w.in-Some-lowered.left c.loop-height.height
          c.loop-height.best w.best_over.result w.data_members.result c.match-lowered.best
          w.in-Some-lowered.ensures.left (omega arith) w.best_over.ensures.best w.data_members.ensures.value now
          c.loop-height.invariant.reached c.loop-height.invariant.tried in
          record {
            reached = more.0;
            tried = more.1;
            bound = omega (
              arith,
              w.best_over.ensures.bound,
              c.loop-height.invariant.bound,
              small_product w.data_members.result c.loop-height.height w.data_members.ensures.few (omega arith),
            );
          }
      | in_default-lowered w ↦ record {
        reached = (c.loop-height.invariant.reached.0, c.loop-height.invariant.reached.1, c.loop-height.invariant.reached.2 ∙ sym w.best-is);
        tried = λ h hs below fits.
            let most = tried_lacking c.in-Some.set.now c.in-Some.others.now c.args.units.now c.loop-height.height c.loop-height.best
            w.in_default-lowered.ensures.lacking c.loop-height.invariant.tried h hs below fits in
            omega (arith, w.best-is);
        bound = omega (arith, w.best-is, c.loop-height.invariant.bound);
      }
    ]

pub returns-clause-best : goal.returns-clause-best
returns-clause-best t c =
    rw c.in-Some.ensures.cases.0
    (tried_all c.in-Some.set.now c.in-Some.others.now c.args.units.now c.loop-height.best c.loop-height.invariant.reached
    (λ h hs low fits. c.loop-height.invariant.tried h hs (omega arith) fits))
