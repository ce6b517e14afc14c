use Rattle.std.proofs.Common.{None, Some}
use Rattle.gpt_table.proofs.Copies.{backup_read}
use Rattle.gpt_table.proofs.Spent.{primary_agrees, copies_agree}
use Rattle.gpt_table.proofs.reading.first_copy.Goals as goal

pub returns-in-Ok-Some-clause-unspent : goal.returns-in-Ok-Some-clause-unspent
returns-in-Ok-Some-clause-unspent g c =
    primary_agrees {a = g.R.Rack.seen c.args.rack.now} {b = g.R.Rack.seen c.read_copy.new.rack} c.args.disk c.args.sectors c.in-Ok-Some.table c.requires.size c.requires.room (rw c.in-Ok-Some.field-0-is at c.in-Ok-Some.ensures.looks)

pub returns-in-Ok-None-read_copy-clause-unspent : goal.returns-in-Ok-None-read_copy-clause-unspent
returns-in-Ok-None-read_copy-clause-unspent g c = λ told.
    copies_agree {a = g.R.Rack.seen c.args.rack.now} {b = g.R.Rack.seen c.read_copy.new.rack} {c = g.R.Rack.seen c.read_copy-2.new.rack} c.args.disk c.args.sectors None None c.requires.size c.requires.room (rw c.in-Ok-None.field-0-is at c.in-Ok-None.ensures.looks) (rw c.in-Ok-None-read_copy.field-0-is at c.in-Ok-None-read_copy.ensures.looks)

pub returns-in-Ok-Some-read_copy-clause-unspent : goal.returns-in-Ok-Some-read_copy-clause-unspent
returns-in-Ok-Some-read_copy-clause-unspent g c = λ told.
    copies_agree {a = g.R.Rack.seen c.args.rack.now} {b = g.R.Rack.seen c.read_copy.new.rack} {c = g.R.Rack.seen c.read_copy-2.new.rack} c.args.disk c.args.sectors None (Some c.in-Ok-Some-read_copy.table) c.requires.size c.requires.room (rw c.in-Ok-None.field-0-is at c.in-Ok-None.ensures.looks) (rw c.in-Ok-Some-read_copy.field-0-is at c.in-Ok-Some-read_copy.ensures.looks)

pub returns-in-Ok-None-read_copy-clause-looks : goal.returns-in-Ok-None-read_copy-clause-looks
returns-in-Ok-None-read_copy-clause-looks g c =
    backup_read {a = g.R.Rack.seen c.args.rack.now} {b = g.R.Rack.seen c.read_copy.new.rack} {c = g.R.Rack.seen c.read_copy-2.new.rack} c.args.disk c.args.sectors None c.requires.disk c.requires.size c.requires.room (rw c.in-Ok-None.field-0-is at c.in-Ok-None.ensures.looks) (rw c.in-Ok-None-read_copy.field-0-is at c.in-Ok-None-read_copy.ensures.looks)

pub returns-in-Ok-Some-read_copy-clause-looks : goal.returns-in-Ok-Some-read_copy-clause-looks
returns-in-Ok-Some-read_copy-clause-looks g c =
    backup_read {a = g.R.Rack.seen c.args.rack.now} {b = g.R.Rack.seen c.read_copy.new.rack} {c = g.R.Rack.seen c.read_copy-2.new.rack} c.args.disk c.args.sectors (Some c.in-Ok-Some-read_copy.table) c.requires.disk c.requires.size c.requires.room (rw c.in-Ok-None.field-0-is at c.in-Ok-None.ensures.looks) (rw c.in-Ok-Some-read_copy.field-0-is at c.in-Ok-Some-read_copy.ensures.looks)
