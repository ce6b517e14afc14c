use Rattle.std.proofs.Common.{sym, ◌∙◌}
use Rattle.array_model.proofs.Reading.{spent_given}
use Rattle.array_core.proofs.Array.is_spent.Goals as goal

pub returns : goal.returns
returns c = c.is_spent_at.ensures ∙ sym (spent_given c.args.self.now c.args.x c.stand-at.result.sector c.stand-at.ensures.sector)
