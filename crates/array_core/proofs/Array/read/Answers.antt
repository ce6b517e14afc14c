use Rattle.std.proofs.Common.{true, false, refl}
use Rattle.std.proofs.lemmas.Bool.{both_ways}
use Rattle.array_model.proofs.Reading.{reads_array}
use Rattle.array_core.proofs.Gathering.{spent_after, value_after}
use Rattle.array_core.proofs.Array.read.Goals as goal

pub returns-then-find-clause-reads : goal.returns-then-find-clause-reads
returns-then-find-clause-reads g c =
    let a = g.R.Rack.seen c.args.rack.now in
    reads_array a (g.R.Rack.seen c.find.new.rack) c.args.self.now c.find.new.self c.args.sector c.find.new.into c.requires.slices.lasting c.find.ensures.reads
    c.rules.ensures c.find.ensures.notes
    (λ alive opened.
    value_after c.args.self.now c.find.new.self c.args.sector c.stand-at.result a c.find.new.into c.find.ensures.notes.same
    c.stand-at.ensures.spread c.stand-at.ensures.position c.stand-at.ensures.sector ((c.find.ensures.served c.if-find.true).1 opened))

pub returns-then-find-clause-served : goal.returns-then-find-clause-served
returns-then-find-clause-served g c =
    spent_after c.args.self.now c.find.new.self c.args.sector c.stand-at.result false c.find.ensures.notes.same
    c.stand-at.ensures.spread c.stand-at.ensures.position c.stand-at.ensures.sector (c.find.ensures.served c.if-find.true).0

pub returns-else-find-clause-reads : goal.returns-else-find-clause-reads
returns-else-find-clause-reads g c =
    let a = g.R.Rack.seen c.args.rack.now in
    let spent =
    spent_after c.args.self.now c.find.new.self c.args.sector c.stand-at.result true c.find.ensures.notes.same
    c.stand-at.ensures.spread c.stand-at.ensures.position c.stand-at.ensures.sector (c.find.ensures.refused c.if-find.false) in
    reads_array a (g.R.Rack.seen c.find.new.rack) c.args.self.now c.find.new.self c.args.sector c.find.new.into c.requires.slices.lasting c.find.ensures.reads
    c.rules.ensures c.find.ensures.notes (λ alive opened. absurd (both_ways _ alive spent))

pub returns-else-find-clause-refused : goal.returns-else-find-clause-refused
returns-else-find-clause-refused g c = (
  refl,
  spent_after c.args.self.now c.find.new.self c.args.sector c.stand-at.result true c.find.ensures.notes.same
      c.stand-at.ensures.spread c.stand-at.ensures.position c.stand-at.ensures.sector (c.find.ensures.refused c.if-find.false),
)
