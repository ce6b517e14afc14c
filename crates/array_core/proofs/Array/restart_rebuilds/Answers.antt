use Rattle.std.proofs.Common.{map, ap, ◌∙◌}
use Rattle.array_core.specs.Seats.{restarted, restarted_slot}
use Rattle.array_core.proofs.Seating.{restarted_made, restarted_view}
use Rattle.array_core.proofs.Array.restart_rebuilds.Goals as goal

pub invariant_of-self : goal.invariant_of-self
invariant_of-self c =
    let changed = c.restarted-self-inside.ensures ∙ ap (map (restarted_slot c.self.inside.truth.size)) c.as_slice.ensures.value in
    restarted_made c.self.inside c.restarted-self-inside.result c.self.invariant changed

pub returns : goal.returns
returns c =
    let changed = c.restarted-self-inside.ensures ∙ ap (map (restarted_slot c.self.inside.truth.size)) c.as_slice.ensures.value in
    restarted_view c.self.inside c.restarted-self-inside.result changed ∙ ap restarted c.self.view_is
