use Rattle.std.proofs.Common.{subst}
use Rattle.rack.specs.Calls.{Reads}
use Rattle.buffered_bay.proofs.InRow.{reads_then}
use Rattle.buffered_bay.proofs.Answered.{read_refused}
use Rattle.buffered_bay.proofs.bay.BufferedBayRack.read.Goals as goal

pub returns-clause-reads : goal.returns-clause-reads
returns-clause-reads g c =
    let middle = c.in-Ok.ensures.quiet.reads in
    let second = subst (λ f. Reads (g.F.FileStore.view f).seen (g.F.FileStore.view c.read_now.new.self.files).seen c.args.disk c.args.sector c.read_now.new.into c.read_now.result) c.note_read.ensures c.read_now.ensures.reads in
    reads_then c.args.disk c.args.sector c.read_now.new.into c.read_now.result (g.met.F.FileStore.plain c.follow.new.self.files) middle c.requires.disk c.requires.sector second

pub returns-in-Err-clause-reads : goal.returns-in-Err-clause-reads
returns-in-Err-clause-reads g c =
    read_refused c.args.sector _ c.in-Err.gone (g.met.F.FileStore.plain c.follow.new.self.files) c.in-Err.ensures.quiet
