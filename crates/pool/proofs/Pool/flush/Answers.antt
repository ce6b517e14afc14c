use Rattle.pool.specs.View.{view}
use Rattle.pool.proofs.Serving.{volume_call, sync_done}
use Rattle.pool.proofs.Pool.flush.Goals as goal

pub returns-clause-flushes : goal.returns-clause-flushes
returns-clause-flushes g c =
    let syncs = c.sync.ensures.syncs in
    let runs = c.sync.ensures.runs in
    sync_done (view g.R.Rack.seen g.R.Bay.shelf c.args.self.now) (view g.R.Rack.seen g.R.Bay.shelf (record { volume = c.sync.new.self })) c.sync.result
    (volume_call g.R.Rack.seen g.R.Bay.shelf g.R.Rack.runs g.met.R.Rack.sound g.met.R.Bay.runs_shelf c.args.self.now (record { volume = c.sync.new.self }) c.requires syncs.stays runs.1
    runs.0 c.sync.ensures.once)
    syncs
