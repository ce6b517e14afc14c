use Rattle.rack_mem.proofs.Effects.{shelf_stays}
use Rattle.rack_mem.proofs.Answered.{refused_sync, sync_done}
use Rattle.rack_mem.proofs.memory.MemBayRack.sync.Goals as goal

pub returns-then-is_refused-clause-call : goal.returns-then-is_refused-clause-call
returns-then-is_refused-clause-call c = refused_sync c.refuse.result c.refuse.ensures.refused c.refuse.ensures.gone

pub returns-clause-call : goal.returns-clause-call
returns-clause-call c = sync_done c.keep.ensures

pub returns-then-is_refused-clause-names : goal.returns-then-is_refused-clause-names
returns-then-is_refused-clause-names c = shelf_stays c.refuse.ensures.refused.faulted.follows

pub returns-clause-names : goal.returns-clause-names
returns-clause-names c = shelf_stays c.keep.ensures.follows
