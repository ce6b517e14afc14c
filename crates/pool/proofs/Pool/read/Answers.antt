use Rattle.std.proofs.Common.{arith}
use Rattle.pool.specs.View.{view}
use Rattle.pool.proofs.Serving.{volume_call, no_call, read_done, read_past, read_spent}
use Rattle.pool.proofs.Pool.read.Goals as goal

pub returns-then-sector-size-clause-read : goal.returns-then-sector-size-clause-read
returns-then-sector-size-clause-read g c =
    read_past (view g.R.Rack.seen g.R.Bay.shelf c.args.self.now) c.args.sector c.args.into.now
    (no_call g.R.Rack.seen g.R.Bay.shelf g.met.R.Rack.sound c.args.self.now c.requires)
    (let past = c.if-sector-size.true in let size = c.size.ensures.size in omega (arith, past, size))

pub returns-in-Ok-clause-read : goal.returns-in-Ok-clause-read
returns-in-Ok-clause-read g c =
    let reads = c.in-Ok.ensures.reads in
    let runs = c.in-Ok.ensures.runs in
    read_done (view g.R.Rack.seen g.R.Bay.shelf c.args.self.now) (view g.R.Rack.seen g.R.Bay.shelf (record { volume = c.read.new.self })) c.args.sector c.read.new.into
    (volume_call g.R.Rack.seen g.R.Bay.shelf g.R.Rack.runs g.met.R.Rack.sound g.met.R.Bay.runs_shelf c.args.self.now (record { volume = c.read.new.self }) c.requires reads.stays runs.1
    runs.0 c.in-Ok.ensures.once)
    (let low = c.if-sector-size.false in let size = c.size.ensures.size in omega (arith, low, size)) reads

pub returns-in-Err-clause-read : goal.returns-in-Err-clause-read
returns-in-Err-clause-read g c =
    let reads = c.in-Err.ensures.reads in
    let runs = c.in-Err.ensures.runs in
    read_spent (view g.R.Rack.seen g.R.Bay.shelf c.args.self.now) (view g.R.Rack.seen g.R.Bay.shelf (record { volume = c.read.new.self })) c.args.sector c.read.new.into c.in-Err.field-0
    (volume_call g.R.Rack.seen g.R.Bay.shelf g.R.Rack.runs g.met.R.Rack.sound g.met.R.Bay.runs_shelf c.args.self.now (record { volume = c.read.new.self }) c.requires reads.stays runs.1
    runs.0 c.in-Err.ensures.once)
    (let low = c.if-sector-size.false in let size = c.size.ensures.size in omega (arith, low, size)) reads
