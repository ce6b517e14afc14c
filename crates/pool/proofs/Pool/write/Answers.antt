use Rattle.std.proofs.Common.{arith}
use Rattle.pool.specs.View.{view}
use Rattle.pool.proofs.Serving.{volume_call, no_call, write_done, write_past, write_spent}
use Rattle.pool.proofs.Pool.write.Goals as goal

pub returns-then-sector-size-clause-written : goal.returns-then-sector-size-clause-written
returns-then-sector-size-clause-written g c =
    write_past (view g.R.Rack.seen g.R.Bay.shelf c.args.self.now) c.args.sector c.args.from.now
    (no_call g.R.Rack.seen g.R.Bay.shelf g.met.R.Rack.sound c.args.self.now c.requires)
    (let past = c.if-sector-size.true in let size = c.size.ensures.size in omega (arith, past, size))

pub returns-in-Ok-clause-written : goal.returns-in-Ok-clause-written
returns-in-Ok-clause-written g c =
    let writes = c.in-Ok.ensures.writes in
    let runs = c.in-Ok.ensures.runs in
    write_done (view g.R.Rack.seen g.R.Bay.shelf c.args.self.now) (view g.R.Rack.seen g.R.Bay.shelf (record { volume = c.write.new.self })) c.args.sector c.args.from.now
    (volume_call g.R.Rack.seen g.R.Bay.shelf g.R.Rack.runs g.met.R.Rack.sound g.met.R.Bay.runs_shelf c.args.self.now (record { volume = c.write.new.self }) c.requires writes.stays runs.1
    runs.0 c.in-Ok.ensures.once)
    (let low = c.if-sector-size.false in let size = c.size.ensures.size in omega (arith, low, size)) writes

pub returns-in-Err-clause-written : goal.returns-in-Err-clause-written
returns-in-Err-clause-written g c =
    let writes = c.in-Err.ensures.writes in
    let runs = c.in-Err.ensures.runs in
    write_spent (view g.R.Rack.seen g.R.Bay.shelf c.args.self.now) (view g.R.Rack.seen g.R.Bay.shelf (record { volume = c.write.new.self })) c.args.sector c.args.from.now c.in-Err.field-0
    (volume_call g.R.Rack.seen g.R.Bay.shelf g.R.Rack.runs g.met.R.Rack.sound g.met.R.Bay.runs_shelf c.args.self.now (record { volume = c.write.new.self }) c.requires writes.stays runs.1
    runs.0 c.in-Err.ensures.once)
    (let low = c.if-sector-size.false in let size = c.size.ensures.size in omega (arith, low, size)) writes
