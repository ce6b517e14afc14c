-- What was tried, once the pool was ended.
use Rattle.raid_rack.specs.RaidRack.{slices_in}
use Rattle.pool.specs.View.{arrays_of, bay_in, view}
use Rattle.shr_tool.proofs.Tried.{trial_outcome}
use Rattle.pool.proofs.Keeping.{passes_then}
use Rattle.shr_tool.proofs.trial.try_pool.Goals as goal

pub returns-clause-passes : goal.returns-clause-passes
returns-clause-passes g c = passes_then _ _ _ c.take_turns-tried.ensures.passes c.end.ensures.ended.passes

pub returns-clause-runs : goal.returns-clause-runs
returns-clause-runs g c = g.met.R.Rack.runs_then _ _ _ c.take_turns-tried.ensures.runs c.end.ensures.runs

pub returns-clause-outcome : goal.returns-clause-outcome
returns-clause-outcome g c =
    λ sink a.
    trial_outcome _ _ (view g.R.Rack.seen g.R.Bay.shelf c.end.new.self) a c.args.seed _ _ c.take_turns-tried.result c.say_tried.result
    (g.met.R.Bay.unspent (bay_in c.end.new.self), g.met.R.Rack.sound (bay_in c.end.new.self), (slices_in (arrays_of c.end.new.self)).orderly)
    c.take_turns-tried.ensures.tries
    c.end.ensures.ended
    (c.say_tried.ensures.says sink)
