use Rattle.std.proofs.Common.{◌+◌, sym, ◌∙◌}
use Rattle.std.proofs.lemmas.Bool.{both_ways}
use Rattle.array_model.proofs.Writing.{works_idle}
use Rattle.array_model.proofs.RowWrites.{gone_uncounted, left_counted_on}
use Rattle.array_core.proofs.Array.put.Goals as goal

pub returns-then-not-counts-clause-works : goal.returns-then-not-counts-clause-works
returns-then-not-counts-clause-works g c =
    works_idle c.args.self.now (g.R.Rack.seen c.args.rack.now) c.args.position (2048 + c.args.sector) c.args.from.now c.rules.ensures.few c.requires.slices.fit
    (gone_uncounted c.args.self.now c.args.position c.args.sector c.requires.sector c.requires.kept (sym c.counts.ensures ∙ c.if-not-counts.true))

pub returns-then-not-counts-clause-idle : goal.returns-then-not-counts-clause-idle
returns-then-not-counts-clause-idle g c = λ gone x.
    works_idle c.args.self.now (g.R.Rack.seen c.args.rack.now) c.args.position (2048 + c.args.sector) x c.rules.ensures.few c.requires.slices.fit gone

pub returns-clause-idle : goal.returns-clause-idle
returns-clause-idle g c = λ gone x.
    absurd (both_ways _ (left_counted_on c.args.self.now c.args.position c.args.sector c.requires.kept (sym c.counts.ensures ∙ c.if-not-counts.false)) gone)
