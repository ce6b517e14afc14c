use Rattle.rack.proofs.Reading.{only_reads_join}
use Rattle.array_image.specs.Held.{current_in}
use Rattle.array_model.proofs.Views.{notes_then}
use Rattle.array_model.proofs.Noting.{read_acts}
use Rattle.array_core.proofs.Gathering.{own_restored, others_restored}
use Rattle.array_core.proofs.Array.member.Goals as goal

pub returns-then-own-clause-keeps : goal.returns-then-own-clause-keeps
returns-then-own-clause-keeps g c =
    read_acts (g.R.Rack.seen c.args.rack.now) (g.R.Rack.seen c.own.new.rack) c.args.self.now c.own.new.self c.requires.slices.lasting c.own.ensures.reads c.rules.ensures c.own.ensures.notes

pub returns-then-own-clause-value : goal.returns-then-own-clause-value
returns-then-own-clause-value g c = λ opened.
    let served = c.own.ensures.served c.if-own.true in
    own_restored c.args.self.now c.own.new.self (current_in (g.R.Rack.seen c.args.rack.now).held) c.in_row-at.result c.args.position c.args.sector c.own.new.into
    c.in_row-at.ensures.stand c.in_row-at.ensures.spread c.in_row-at.ensures.position c.in_row-at.ensures.sector served.0 (served.2 opened)

pub returns-then-find-clause-keeps : goal.returns-then-find-clause-keeps
returns-then-find-clause-keeps g c =
    read_acts (g.R.Rack.seen c.args.rack.now) (g.R.Rack.seen c.find.new.rack) c.args.self.now c.find.new.self c.requires.slices.lasting
    (only_reads_join c.own.ensures.reads c.find.ensures.reads) c.rules.ensures
    (notes_then c.args.self.now c.own.new.self c.find.new.self (g.R.Rack.seen c.args.rack.now) (g.R.Rack.seen c.own.new.rack) (g.R.Rack.seen c.find.new.rack)
    c.own.ensures.reads.stays c.find.ensures.reads.stays c.own.ensures.notes c.find.ensures.notes)

pub returns-then-find-clause-reads : goal.returns-then-find-clause-reads
returns-then-find-clause-reads g c = only_reads_join c.own.ensures.reads c.find.ensures.reads

pub returns-then-find-clause-notes : goal.returns-then-find-clause-notes
returns-then-find-clause-notes g c =
    notes_then c.args.self.now c.own.new.self c.find.new.self (g.R.Rack.seen c.args.rack.now) (g.R.Rack.seen c.own.new.rack) (g.R.Rack.seen c.find.new.rack)
    c.own.ensures.reads.stays c.find.ensures.reads.stays c.own.ensures.notes c.find.ensures.notes

pub returns-then-find-clause-value : goal.returns-then-find-clause-value
returns-then-find-clause-value g c =
    others_restored c.args.self.now c.own.new.self c.find.new.self (g.R.Rack.seen c.args.rack.now) (g.R.Rack.seen c.own.new.rack) (g.R.Rack.seen c.find.new.rack)
    c.in_row-at.result c.args.position c.args.sector c.find.new.into c.requires.slices.lasting
    c.in_row-at.ensures.stand c.in_row-at.ensures.spread c.in_row-at.ensures.position c.in_row-at.ensures.sector
    c.own.ensures.reads c.own.ensures.notes c.find.ensures.reads c.find.ensures.notes (c.own.ensures.lost c.if-own.false) (c.find.ensures.served c.if-find.true).1

pub returns-else-find-clause-keeps : goal.returns-else-find-clause-keeps
returns-else-find-clause-keeps g c =
    read_acts (g.R.Rack.seen c.args.rack.now) (g.R.Rack.seen c.find.new.rack) c.args.self.now c.find.new.self c.requires.slices.lasting
    (only_reads_join c.own.ensures.reads c.find.ensures.reads) c.rules.ensures
    (notes_then c.args.self.now c.own.new.self c.find.new.self (g.R.Rack.seen c.args.rack.now) (g.R.Rack.seen c.own.new.rack) (g.R.Rack.seen c.find.new.rack)
    c.own.ensures.reads.stays c.find.ensures.reads.stays c.own.ensures.notes c.find.ensures.notes)

pub returns-else-find-clause-reads : goal.returns-else-find-clause-reads
returns-else-find-clause-reads g c = only_reads_join c.own.ensures.reads c.find.ensures.reads

pub returns-else-find-clause-notes : goal.returns-else-find-clause-notes
returns-else-find-clause-notes g c =
    notes_then c.args.self.now c.own.new.self c.find.new.self (g.R.Rack.seen c.args.rack.now) (g.R.Rack.seen c.own.new.rack) (g.R.Rack.seen c.find.new.rack)
    c.own.ensures.reads.stays c.find.ensures.reads.stays c.own.ensures.notes c.find.ensures.notes
