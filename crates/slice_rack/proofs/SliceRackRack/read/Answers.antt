use Rattle.slice_rack.proofs.Below.{unread_sliced}
use Rattle.slice_rack.proofs.SliceRackRack.read.Goals as goal

pub returns-in-Err-clause-reads : goal.returns-in-Err-clause-reads
returns-in-Err-clause-reads g c =
    unread_sliced c.args.disk c.args.sector _ c.in-Err.field-0 c.args.self.now.orderly c.requires.fit.1
    (rw (← c.disk_below-below.ensures, ← c.slice-first.ensures.first) c.in-Err.ensures.reads)
