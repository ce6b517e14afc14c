use Rattle.std.proofs.Common.{◌∙◌, ◌≤◌, ◌<◌, subst, sym}
use Rattle.array_model.proofs.Views.{notes_none}
use Rattle.reshape_laws.specs.Rows.{past}
use Rattle.reshape_laws.proofs.Old.{read_old, read_only}
use Rattle.md_super.specs.declared.superblock.Super.{Super}
use Rattle.array_model.specs.View.{sectors_of}
use Rattle.reshape_laws.proofs.RowCall.{blank_zeros, rows_same, spent_two}
use Rattle.array_reshape.proofs.new_rows.old_sector.Goals as goal

pub returns-then-x-sectors-clause-notes : goal.returns-then-x-sectors-clause-notes
returns-then-x-sectors-clause-notes g c = notes_none c.args.array.now _ _

pub returns-then-x-sectors-clause-old : goal.returns-then-x-sectors-clause-old
returns-then-x-sectors-clause-old g c = λ is. past (subst (λ n. n ≤ c.args.x) c.sectors.ensures c.if-x-sectors.true) c.requires.left (c.zero_sector.ensures ∙ blank_zeros)

pub returns-in-Ok-clause-reads : goal.returns-in-Ok-clause-reads
returns-in-Ok-clause-reads g c = read_only c.args.array.now c.read.new.self (g.R.Rack.seen c.args.rack.now) (g.R.Rack.seen c.read.new.rack) c.args.x c.read.new.into c.read.ensures.reads

pub returns-in-Ok-clause-old : goal.returns-in-Ok-clause-old
returns-in-Ok-clause-old g c = λ is.
    read_old c.args.array.now c.read.new.self (g.R.Rack.seen c.args.rack.now) (g.R.Rack.seen c.read.new.rack) c.args.x c.read.new.into c.read.ensures.notes c.in-Ok.ensures.served c.read.ensures.reads

pub returns-in-Err-clause-reads : goal.returns-in-Err-clause-reads
returns-in-Err-clause-reads g c = read_only c.args.array.now c.read.new.self (g.R.Rack.seen c.args.rack.now) (g.R.Rack.seen c.read.new.rack) c.args.x c.read.new.into c.read.ensures.reads

pub returns-in-Err-clause-lost : goal.returns-in-Err-clause-lost
returns-in-Err-clause-lost g c = λ is.
    spent_two c.read.new.self c.args.x c.rules-in-Err.ensures (rows_same c.args.array.now c.read.new.self c.read.ensures.notes.same c.requires.synced)
    (subst (λ (t : Super). c.args.x < sectors_of (record c.args.array.now { truth = t })) (sym c.read.ensures.notes.same.truth) (subst (λ n. c.args.x < n) c.sectors.ensures c.if-x-sectors.false))
    c.in-Err.ensures.refused.1
