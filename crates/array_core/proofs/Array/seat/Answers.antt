use Rattle.std.proofs.Common.{option_map, ap, ◌∙◌}
use Rattle.array_core.specs.declared.slots.Slot.{Slot}
use Rattle.array_core.specs.Seats.{seat_of}
use Rattle.array_core.proofs.Seating.{seat_viewed}
use Rattle.array_core.proofs.Array.seat.Goals as goal

pub returns-in-Some : goal.returns-in-Some
returns-in-Some c =
    ap (option_map (λ (s : Slot). s.seat)) c.in-Some.ensures
    ∙ seat_viewed c.self.inside c.as_slice.result.now c.args.place c.self.invariant c.as_slice.ensures.value
    ∙ ap (λ v. seat_of v c.args.place) c.self.view_is

pub returns-in-None : goal.returns-in-None
returns-in-None c =
    ap (option_map (λ (s : Slot). s.seat)) c.in-None.ensures
    ∙ seat_viewed c.self.inside c.as_slice.result.now c.args.place c.self.invariant c.as_slice.ensures.value
    ∙ ap (λ v. seat_of v c.args.place) c.self.view_is
