-- What was put, once the pool was ended.
use Rattle.raid_rack.specs.RaidRack.{slices_in}
use Rattle.pool.specs.View.{arrays_of, bay_in, view}
use Rattle.shr_tool.proofs.Exported.{export_outcome}
use Rattle.pool.proofs.Keeping.{passes_then}
use Rattle.shr_tool.proofs.exporting.export_pool.Goals as goal

pub returns-clause-passes : goal.returns-clause-passes
returns-clause-passes g c = passes_then _ _ _ c.put_sectors-put.ensures.passes c.end.ensures.ended.passes

pub returns-clause-runs : goal.returns-clause-runs
returns-clause-runs g c = g.met.R.Rack.runs_then _ _ _ c.put_sectors-put.ensures.runs c.end.ensures.runs

pub returns-clause-outcome : goal.returns-clause-outcome
returns-clause-outcome g c =
    λ sink a.
    export_outcome c.put_sectors-put.result c.status_of.result _ _ (view g.R.Rack.seen g.R.Bay.shelf c.end.new.self) a _ _ c.status_of.ensures
    (g.met.R.Bay.unspent (bay_in c.end.new.self), g.met.R.Rack.sound (bay_in c.end.new.self), (slices_in (arrays_of c.end.new.self)).orderly)
    (c.put_sectors-put.ensures.puts sink)
    c.end.ensures.ended
