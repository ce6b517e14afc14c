use Rattle.gpt_table.proofs.Copies.{copy_read}
use Rattle.gpt_table.proofs.reading.read_copy.Goals as goal

pub returns-in-Ok-clause-looks : goal.returns-in-Ok-clause-looks
returns-in-Ok-clause-looks g c =
    copy_read {a = g.R.Rack.seen c.args.rack.now} {b = g.R.Rack.seen c.read.new.self} {c = g.R.Rack.seen c.read_entries.new.rack} c.args.disk c.args.sectors c.args.copy c.read.new.into c.in-Ok.entries c.decode.result c.requires.fit c.requires.disk c.requires.size c.requires.room
    (rw (← c.header_sector.ensures) c.in_default.ensures.reads)
    (rw (← c.entries_sector.ensures) c.in-Ok.ensures.looks)
    c.decode.ensures.table
