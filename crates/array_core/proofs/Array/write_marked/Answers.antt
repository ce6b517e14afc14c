use Rattle.array_model.proofs.RowWrites.{whole_past, wrote_acts, wrote_others}
use Rattle.array_core.proofs.Elsewhere.{wrote_elsewhere}
use Rattle.array_core.proofs.TruthHeld.{wrote_supers}
use Rattle.array_core.proofs.WriteCalls.{wrote_goes}
use Rattle.array_core.proofs.Array.write_marked.Goals as goal

pub returns-clause-writes : goal.returns-clause-writes
returns-clause-writes g c =
    wrote_acts c.args.self.now c.write_row.new.self (g.R.Rack.seen c.args.rack.now) (g.R.Rack.seen c.write_row.new.rack) c.args.sector c.args.from.now
    c.requires.slices.lasting c.rules.ensures (whole_past c.args.self.now c.rules.ensures c.requires.whole c.requires.marked) c.requires.fresh c.write_row.ensures.wrote

pub returns-clause-others : goal.returns-clause-others
returns-clause-others g c =
    wrote_others c.args.self.now c.write_row.new.self (g.R.Rack.seen c.args.rack.now) (g.R.Rack.seen c.write_row.new.rack) c.args.sector c.args.from.now c.rules.ensures.few c.write_row.ensures.wrote

pub returns-clause-goes : goal.returns-clause-goes
returns-clause-goes g c = wrote_goes c.args.self.now c.write_row.new.self (g.R.Rack.seen c.args.rack.now) (g.R.Rack.seen c.write_row.new.rack) c.args.sector c.args.from.now c.write_row.ensures.wrote

pub returns-clause-elsewhere : goal.returns-clause-elsewhere
returns-clause-elsewhere g c = λ on.
    wrote_elsewhere c.args.self.now c.write_row.new.self on (g.R.Rack.seen c.args.rack.now) (g.R.Rack.seen c.write_row.new.rack) c.args.sector c.args.from.now c.rules.ensures c.requires.whole
    c.write_row.ensures.wrote

pub returns-clause-supers : goal.returns-clause-supers
returns-clause-supers g c =
    wrote_supers c.args.self.now c.write_row.new.self (g.R.Rack.seen c.args.rack.now) (g.R.Rack.seen c.write_row.new.rack) c.args.sector c.args.from.now c.write_row.ensures.wrote
