use Rattle.pool_lab.proofs.DisksLemmas.{attached_or_not}
use Rattle.pool_lab.proofs.bay.LabBayBay.attach.Goals as goal

pub returns-in-Ok-clause-attaches : goal.returns-in-Ok-clause-attaches
returns-in-Ok-clause-attaches c =
    attached_or_not _ _ c.in-Ok.disk _ _ _ _ c.in-Ok.ensures.opened c.in-Ok.ensures.unfaulted c.in-None.ensures.none c.add.ensures.faults c.add.ensures.added c.add.ensures.refused
