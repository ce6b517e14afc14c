use Rattle.gpt_table.proofs.Copies.{copies_read}
use Rattle.gpt_table.proofs.settling.read_copies.Goals as goal

pub returns-in-Ok-read_copy-clause-looks : goal.returns-in-Ok-read_copy-clause-looks
returns-in-Ok-read_copy-clause-looks g c =
    copies_read {a = g.R.Rack.seen c.args.rack.now} {b = g.R.Rack.seen c.read_copy.new.rack} {c = g.R.Rack.seen c.read_copy-2.new.rack} c.args.disk c.args.sectors
    c.in-Ok.primary c.in-Ok-read_copy.backup c.requires.disk c.requires.size c.requires.room c.in-Ok.ensures.looks c.in-Ok-read_copy.ensures.looks
