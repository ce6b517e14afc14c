use Rattle.std.proofs.Common.{true, false, sym, ◌∙◌, arith}
use Rattle.array_model.proofs.Firsts.{wanting_step}
use Rattle.array_core.proofs.Array.wanting.Goals.{then-not-counts, else-not-counts}
use Rattle.array_core.proofs.Array.wanting.Goals as goal

pub loop-position-preserved : goal.loop-position-preserved
loop-position-preserved c =
    let so_far = c.loop-position.invariant.0 in
    elim c.if-not-counts.branch [
      | then-not-counts w ↦ (
        omega (arith, so_far, w.wanting-is),
        wanting_step c.args.self.now c.args.sector c.loop-position.position c.loop-position.wanting c.if-not-counts.wanting false
            (sym c.counts.ensures ∙ w.if-not-counts.true) c.loop-position.invariant.1 w.wanting-is,
      )
      | else-not-counts w ↦ (
        omega (arith, so_far, w.wanting-is),
        wanting_step c.args.self.now c.args.sector c.loop-position.position c.loop-position.wanting c.if-not-counts.wanting true
            (sym c.counts.ensures ∙ w.if-not-counts.false) c.loop-position.invariant.1 w.wanting-is,
      )
    ]
