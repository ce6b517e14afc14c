use Rattle.std.proofs.Common.{sym, ◌∙◌}
use Rattle.pool.specs.View.{book, view}
use Rattle.pool.proofs.Admitted.{admitted}
use Rattle.pool.proofs.Giving.{at_once}
use Rattle.pool.proofs.Pool.take_in.Goals as goal

pub fill-requires-clause-admitted : goal.fill-requires-clause-admitted
fill-requires-clause-admitted g c =
    let x = view g.R.Rack.seen g.R.Bay.shelf c.args.self.now in
    admitted x.linear (book x) c.args.place (x.bay.sectors c.args.disk) c.requires.admitted

pub returns-else-has_drive-clause-replaces : goal.returns-else-has_drive-clause-replaces
returns-else-has_drive-clause-replaces g c =
    let x = view g.R.Rack.seen g.R.Bay.shelf c.args.self.now in
    at_once x (view g.R.Rack.seen g.R.Bay.shelf c.fill.new.self) c.args.place c.args.disk c.fill.result (sym c.has_drive.ensures ∙ c.if-has_drive.false) c.requires.admitted c.fill.ensures.takes
