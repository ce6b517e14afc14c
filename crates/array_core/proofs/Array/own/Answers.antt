use Rattle.array_model.proofs.Views.{notes_none}
use Rattle.array_core.proofs.Array.own.Goals as goal

pub returns-then-not-counts-clause-notes : goal.returns-then-not-counts-clause-notes
returns-then-not-counts-clause-notes g c = notes_none c.args.self.now _ _
