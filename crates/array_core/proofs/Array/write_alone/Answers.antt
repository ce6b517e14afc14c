use Rattle.array_model.proofs.Alone.{alone_past}
use Rattle.array_model.proofs.RowWrites.{wrote_acts, wrote_others, wrote_notes}
use Rattle.array_core.proofs.SupersLeft.{supers_row}
use Rattle.array_core.proofs.TruthHeld.{wrote_supers}
use Rattle.array_core.proofs.WriteCalls.{wrote_goes}
use Rattle.array_core.proofs.Array.write_alone.Goals as goal

pub returns-clause-writes : goal.returns-clause-writes
returns-clause-writes g c = λ s vals spent covers fresh.
    wrote_acts c.args.self.now c.write_first.new.self (g.R.Rack.seen c.args.rack.now) (g.R.Rack.seen c.write_first.new.rack) c.args.sector c.args.from.now
    c.requires.slices.lasting c.rules.ensures (alone_past c.args.self.now c.rules.ensures c.requires.alone) fresh c.write_first.ensures.wrote s vals spent covers

pub returns-clause-notes : goal.returns-clause-notes
returns-clause-notes g c = wrote_notes c.args.self.now c.write_first.new.self (g.R.Rack.seen c.args.rack.now) (g.R.Rack.seen c.write_first.new.rack) c.args.sector c.args.from.now c.write_first.ensures.wrote

pub returns-clause-others : goal.returns-clause-others
returns-clause-others g c = wrote_others c.args.self.now c.write_first.new.self (g.R.Rack.seen c.args.rack.now) (g.R.Rack.seen c.write_first.new.rack) c.args.sector c.args.from.now c.rules.ensures.few c.write_first.ensures.wrote

pub returns-clause-goes : goal.returns-clause-goes
returns-clause-goes g c = wrote_goes c.args.self.now c.write_first.new.self (g.R.Rack.seen c.args.rack.now) (g.R.Rack.seen c.write_first.new.rack) c.args.sector c.args.from.now c.write_first.ensures.wrote

pub returns-clause-supers : goal.returns-clause-supers
returns-clause-supers g c =
    wrote_supers c.args.self.now c.write_first.new.self (g.R.Rack.seen c.args.rack.now) (g.R.Rack.seen c.write_first.new.rack) c.args.sector c.args.from.now c.write_first.ensures.wrote

pub returns-clause-leaves : goal.returns-clause-leaves
returns-clause-leaves g c =
    supers_row c.args.self.now c.write_first.new.self (g.R.Rack.seen c.args.rack.now) (g.R.Rack.seen c.write_first.new.rack) c.args.sector c.args.from.now c.rules.ensures.few
    c.requires.slices.lasting c.write_first.ensures.wrote
