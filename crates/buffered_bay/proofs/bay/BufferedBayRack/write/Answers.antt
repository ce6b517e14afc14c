use Rattle.buffered_bay.proofs.InRow.{writes_then}
use Rattle.buffered_bay.proofs.Answered.{write_refused}
use Rattle.buffered_bay.proofs.bay.BufferedBayRack.write.Goals as goal

pub returns-in-Ok-clause-writes : goal.returns-in-Ok-clause-writes
returns-in-Ok-clause-writes g c =
    writes_then c.args.disk c.args.sector c.args.from.now c.put.result c.in-Ok.ensures.quiet.reads c.put.ensures.writes

pub returns-in-Err-clause-writes : goal.returns-in-Err-clause-writes
returns-in-Err-clause-writes g c =
    write_refused c.args.sector c.args.from.now c.in-Err.gone (g.met.F.FileStore.plain c.make_room.new.self.files) c.in-Err.ensures.quiet
