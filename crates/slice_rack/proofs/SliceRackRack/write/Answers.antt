use Rattle.slice_rack.specs.SliceRack.{tables}
use Rattle.slice_rack.proofs.Below.{write_sliced, refused_sliced}
use Rattle.slice_rack.proofs.Running.{runs_written, runs_refused}
use Rattle.slice_rack.proofs.SliceRackRack.write.Goals as goal

pub returns-in-Ok-clause-writes : goal.returns-in-Ok-clause-writes
returns-in-Ok-clause-writes g c =
    write_sliced c.args.disk c.args.sector c.args.from.now c.args.self.now.orderly c.requires.fit.1 c.requires.sector
    (rw (← c.disk_below-below.ensures, ← c.slice-first.ensures.first) c.in-Ok.ensures.writes)

pub returns-in-Err-clause-writes : goal.returns-in-Err-clause-writes
returns-in-Err-clause-writes g c =
    refused_sliced c.args.disk c.args.sector c.args.from.now c.in-Err.field-0 c.args.self.now.orderly c.requires.fit.1 c.requires.sector
    (rw (← c.disk_below-below.ensures, ← c.slice-first.ensures.first) c.in-Err.ensures.writes)

pub returns-in-Ok-clause-runs : goal.returns-in-Ok-clause-runs
returns-in-Ok-clause-runs g c =
    runs_written (tables c.args.self.now) (g.R.Rack.seen c.args.self.now.rack) (g.R.Rack.seen c.write.new.self) _ c.args.disk c.args.sector c.args.from.now
    c.in-Ok.ensures.runs c.requires.sector (rw (← c.disk_below-below.ensures, ← c.slice-first.ensures.first) c.in-Ok.ensures.writes)

pub returns-in-Err-clause-runs : goal.returns-in-Err-clause-runs
returns-in-Err-clause-runs g c =
    runs_refused (tables c.args.self.now) (g.R.Rack.seen c.args.self.now.rack) (g.R.Rack.seen c.write.new.self) _ c.args.disk c.args.sector c.args.from.now c.in-Err.field-0
    c.in-Err.ensures.runs c.requires.sector (rw (← c.disk_below-below.ensures, ← c.slice-first.ensures.first) c.in-Err.ensures.writes)
