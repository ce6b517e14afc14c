use Rattle.buffered_bay.proofs.InRow.{syncs_then}
use Rattle.buffered_bay.proofs.Answered.{sync_refused}
use Rattle.buffered_bay.proofs.bay.BufferedBayRack.sync.Goals as goal

pub returns-in-Ok-clause-syncs : goal.returns-in-Ok-clause-syncs
returns-in-Ok-clause-syncs g c = syncs_then c.args.disk c.sync_clean.result c.in-Ok.ensures.quiet.reads c.sync_clean.ensures.syncs

pub returns-in-Err-clause-syncs : goal.returns-in-Err-clause-syncs
returns-in-Err-clause-syncs g c = sync_refused c.in-Err.gone c.in-Err.ensures.quiet
