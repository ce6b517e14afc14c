use Rattle.std.proofs.Common.{◌∙◌, sym, ap}
use Rattle.log_laws.specs.View.{LogView}
use Rattle.array_core.proofs.RowTargets.{data_staged, both_staged}
use Rattle.array_core.proofs.Array.stage_change.Goals as goal

pub returns-then-not-is_due-clause-staged : goal.returns-then-not-is_due-clause-staged
returns-then-not-is_due-clause-staged g c =
    data_staged c.args.all c.args.self.now (g.R.Rack.seen c.args.rack.now) c.args.at.now c.args.side.now c.args.from.now c.is_due-own.result c.args.log.now.added c.stage_if.new.log.added
    c.requires.slices.fit c.requires.empty (ap (λ (l : LogView). l.added) c.stage_if.ensures) c.is_due-own.ensures (sym c.is_due.ensures ∙ c.if-not-is_due.true)

pub returns-clause-staged : goal.returns-clause-staged
returns-clause-staged g c =
    both_staged c.args.all c.args.self.now c.row_parity.new.self (g.R.Rack.seen c.args.rack.now) (g.R.Rack.seen c.row_parity.new.rack) c.args.at.now c.args.side.now c.args.from.now c.row_parity.new.into
    c.is_due-own.result c.args.log.now.added c.stage_if-2.new.log.added c.stage_if-3.new.log.added c.row_parity.ensures.reads c.row_parity.ensures.notes c.requires.empty
    (ap (λ (l : LogView). l.added) c.stage_if-2.ensures) (ap (λ (l : LogView). l.added) c.stage_if-3.ensures) c.is_due-own.ensures (sym c.is_due.ensures ∙ c.if-not-is_due.false)
    c.row_parity.array_long (c.row_parity.ensures.found c.if-not-row_parity.false)
