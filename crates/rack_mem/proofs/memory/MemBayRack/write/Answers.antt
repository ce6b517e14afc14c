use Rattle.rack_mem.proofs.Effects.{shelf_stays}
use Rattle.rack_mem.proofs.Answered.{refused_write, write_done}
use Rattle.rack_mem.proofs.memory.MemBayRack.write.Goals as goal

pub returns-then-is_refused-clause-call : goal.returns-then-is_refused-clause-call
returns-then-is_refused-clause-call c = refused_write c.args.sector _ c.refuse.result c.refuse.ensures.refused c.refuse.ensures.gone

pub returns-clause-call : goal.returns-clause-call
returns-clause-call c = write_done c.keep_write.ensures

pub returns-then-is_refused-clause-names : goal.returns-then-is_refused-clause-names
returns-then-is_refused-clause-names c = shelf_stays c.refuse.ensures.refused.faulted.follows

pub returns-clause-names : goal.returns-clause-names
returns-clause-names c = shelf_stays c.keep_write.ensures.follows
