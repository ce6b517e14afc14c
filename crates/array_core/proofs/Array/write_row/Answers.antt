use Rattle.array_model.specs.View.{shape_of}
use Rattle.array_model.specs.Rows.{row, copies}
use Rattle.array_model.proofs.Changing.{mirror_owes}
use Rattle.array_core.proofs.Array.write_row.Goals as goal

pub returns-then-mirrors-clause-wrote : goal.returns-then-mirrors-clause-wrote
returns-then-mirrors-clause-wrote g c =
    row (copies (shape_of c.args.self.now) c.args.self.now.number c.args.sector c.args.from.now) c.copy_all.ensures.works
    (mirror_owes c.args.self.now (g.R.Rack.seen c.args.rack.now) c.args.sector c.args.from.now c.rules.ensures c.requires.whole (c.mirrors.ensures.mirror c.if-mirrors.true) c.told-from)
