use Rattle.std.proofs.Common.{sym, ◌∙◌}
use Rattle.array_model.proofs.Firsts.{first_found, first_next, first_none}
use Rattle.array_core.proofs.Array.first.Goals as goal

pub loop-position-init : goal.loop-position-init
loop-position-init c = first_none c.args.sector

pub returns-then-counts-clause-found : goal.returns-then-counts-clause-found
returns-then-counts-clause-found c = (
  c.loop-position-test.true,
  first_found c.args.self.now c.args.sector c.loop-position.position c.args.members c.loop-position-test.true c.loop-position.invariant (sym c.counts.ensures ∙ c.if-counts.true),
)

pub loop-position-preserved : goal.loop-position-preserved
loop-position-preserved c =
    first_next c.args.self.now c.args.sector c.loop-position.position c.loop-position.invariant (sym c.counts.ensures ∙ c.if-counts.false)
