use Rattle.rack_mem.proofs.Equality.{eqb_comm}
use Rattle.rack_mem.proofs.table.SectorTable.set.Goals as goal

pub returns-clause-set : goal.returns-clause-set
returns-clause-set g c d s =
    rw (eqb_comm d c.args.disk, eqb_comm s c.args.sector) ((rw c.unwrap.ensures at c.insert-put.ensures.updates).0 (record { disk = d; sector = s }))
