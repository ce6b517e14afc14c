-- How a script came out, by why it stopped.
use Rattle.raid_rack.specs.RaidRack.{slices_in}
use Rattle.pool.specs.View.{arrays_of, bay_in, view}
use Rattle.shr_tool.proofs.Finishing.{limit_status, outcome_by, status_cause, status_limit}
use Rattle.std.proofs.Common.{◌^◌}
use Rattle.pool.proofs.Continuing.{continues_of, proceeds_then}
use Rattle.shr_tool.proofs.Limits.{keeps_limit}
use Rattle.shr_tool.proofs.serve.finish.serve_pool.Goals as goal

pub returns-clause-proceeds : goal.returns-clause-proceeds
returns-clause-proceeds g c =
    proceeds_then _ _ _ c.answer_script-stopped.ensures.proceeds (continues_of _ _ c.end.ensures.ended.passes).proceeds

pub returns-clause-frame : goal.returns-clause-frame
returns-clause-frame g c = g.met.R.Bay.frame_then _ _ _ c.answer_script-stopped.ensures.frame (g.met.R.Bay.runs_frame _ _ c.end.ensures.runs)

pub returns-clause-cause : goal.returns-clause-cause
returns-clause-cause g c = status_cause _ _ _ _ _ _ _ c.status_of.ensures c.answer_script-stopped.ensures.cause

pub returns-clause-limit : goal.returns-clause-limit
returns-clause-limit g c =
    λ source.
    keeps_limit (2 ^ 32) _ _
    (status_limit _ _ _ c.status_of.ensures)
    (limit_status _ _ _ c.status_of.ensures)
    (c.answer_script-stopped.ensures.limit source)

pub returns-clause-outcome : goal.returns-clause-outcome
returns-clause-outcome g c =
    λ source sink a.
    outcome_by _ _ _ _ _ (view g.R.Rack.seen g.R.Bay.shelf c.end.new.self) a _ _ _ _ c.status_of.ensures
    (c.answer_script-stopped.ensures.serves source sink)
    (g.met.R.Bay.unspent (bay_in c.end.new.self), g.met.R.Rack.sound (bay_in c.end.new.self), (slices_in (arrays_of c.end.new.self)).orderly)
    c.end.ensures.ended
