use Rattle.rack.proofs.Durably.{write_refused, write_then_sync}
use Rattle.rack.proofs.durable.write_durably.Goals as goal

pub returns-in-Err-clause-writes : goal.returns-in-Err-clause-writes
returns-in-Err-clause-writes g c = write_refused _ _ _ _ _ _ _ c.in-Err.is c.write.ensures.writes

pub returns-in-Ok-clause-writes : goal.returns-in-Ok-clause-writes
returns-in-Ok-clause-writes g c = write_then_sync _ _ _ _ _ _ _ _ _ c.in-Ok.is c.write.ensures.writes c.sync.ensures.syncs
