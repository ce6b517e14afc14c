-- How the script came out, by why it stopped.
use Rattle.raid_rack.specs.RaidRack.{slices_in}
use Rattle.pool.specs.View.{arrays_of, bay_in, view}
use Rattle.shr_tool.proofs.Finishing.{events_by, limit_status, status_cause}
use Rattle.pool.proofs.Continuing.{continues_of, proceeds_then}
use Rattle.shr_tool.proofs.serve.once.show_pool.Goals as goal

pub returns-clause-proceeds : goal.returns-clause-proceeds
returns-clause-proceeds g c =
    proceeds_then _ _ _ c.answer_status-stopped.ensures.proceeds (continues_of _ _ c.end.ensures.ended.passes).proceeds

pub returns-clause-frame : goal.returns-clause-frame
returns-clause-frame g c = g.met.R.Bay.frame_then _ _ _ c.answer_status-stopped.ensures.frame (g.met.R.Bay.runs_frame _ _ c.end.ensures.runs)

pub returns-clause-cause : goal.returns-clause-cause
returns-clause-cause g c = status_cause _ _ _ _ _ _ _ c.status_of.ensures c.answer_status-stopped.ensures.cause

pub returns-clause-other : goal.returns-clause-other
returns-clause-other g c = λ limit. c.answer_status-stopped.ensures.other (limit_status _ _ _ c.status_of.ensures limit)

pub returns-clause-outcome : goal.returns-clause-outcome
returns-clause-outcome g c =
    λ sink a.
    events_by _ _ _ _ _ (view g.R.Rack.seen g.R.Bay.shelf c.end.new.self) a _ _ _ _ c.status_of.ensures
    (c.answer_status-stopped.ensures.serves sink)
    (g.met.R.Bay.unspent (bay_in c.end.new.self), g.met.R.Rack.sound (bay_in c.end.new.self), (slices_in (arrays_of c.end.new.self)).orderly)
    c.end.ensures.ended
