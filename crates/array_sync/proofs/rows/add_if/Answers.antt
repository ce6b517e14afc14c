use Rattle.std.proofs.Common.{sym, ◌∙◌}
use Rattle.array_image.specs.Held.{current_in}
use Rattle.array_model.proofs.Views.{notes_none}
use Rattle.sync_laws.proofs.Summing.{added_none, added_one}
use Rattle.array_sync.proofs.rows.add_if.Goals as goal

pub returns-then-not-is_source-clause-notes : goal.returns-then-not-is_source-clause-notes
returns-then-not-is_source-clause-notes g c = notes_none c.args.array.now _ _

pub returns-then-not-is_source-clause-sum : goal.returns-then-not-is_source-clause-sum
returns-then-not-is_source-clause-sum g c = λ is opened.
    added_none c.args.array.now (current_in (g.R.Rack.seen c.args.rack.now).held) c.args.sector c.args.position c.args.sum.now (sym c.is_source.ensures ∙ c.if-not-is_source.true) c.told-sum

pub returns-clause-sum : goal.returns-clause-sum
returns-clause-sum g c = λ is opened.
    added_one c.args.array.now (current_in (g.R.Rack.seen c.args.rack.now).held) c.args.sector c.args.position c.args.sum.now c.add_source.new.sum (sym c.is_source.ensures ∙ c.if-not-is_source.false)
    (c.add_source.ensures.sum is opened)
