-- The place of the call is that of the line, or both are no place.
use Rattle.std.proofs.Common.{◌∙◌, ap, Err}
use Rattle.pool.specs.View.{view}
use Rattle.pool.proofs.Serving.{sound_in}
use Rattle.shr_tool.proofs.Enlarged.{decline_acts, replace_acts}
use Rattle.shr_tool.proofs.LostDrive.{is_cut}
use Rattle.shr_tool.proofs.perform.perform_replace.Goals as goal

pub returns-in-Ok-clause-answers : goal.returns-in-Ok-clause-answers
returns-in-Ok-clause-answers g c =
    replace_acts _ _ _ _ c.args.name.now c.as_str.result.now _ _ c.requires (is_cut _ _ _ c.from.ensures c.min-place.ensures) c.as_str.ensures c.in-Ok.is
    c.line_reply.ensures c.replace.ensures.replaced

pub returns-in-Err-clause-answers : goal.returns-in-Err-clause-answers
returns-in-Err-clause-answers g c =
    decline_acts _ _ _ _ c.args.name.now c.as_str.result.now _ _ _ c.in-Err.fault c.requires
    (sound_in g.R.Rack.seen g.R.Bay.shelf g.met.R.Rack.sound c.args.pool.now c.requires) (is_cut _ _ _ c.from.ensures c.min-place.ensures) c.as_str.ensures
    c.in-Err.is c.decline_reply.ensures.answer c.decline_reply.ensures.text
    (λ missing. ap (λ pool. view g.R.Rack.seen g.R.Bay.shelf pool) (c.replace.ensures.unlisted (c.in-Err.is ∙ ap Err missing))) c.replace.ensures.replaced
