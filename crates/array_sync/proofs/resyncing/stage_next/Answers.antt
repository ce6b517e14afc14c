use Rattle.array_model.proofs.Views.{notes_none}
use Rattle.array_sync.proofs.resyncing.stage_next.Goals as goal

pub returns-then-next-clause-notes : goal.returns-then-next-clause-notes
returns-then-next-clause-notes g c = notes_none c.args.array.now _ _
