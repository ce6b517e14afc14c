use Rattle.std.proofs.Common.{◌∷◌, [], None, map, ap, ◌∙◌}
use Rattle.array_model.specs.declared.Seat.TheVariants.{Missing}
use Rattle.array_core.specs.Seats.{losing, reseated}
use Rattle.array_core.proofs.Seating.{reseated_made, lost_view}
use Rattle.array_core.proofs.Array.lose.Goals as goal

pub invariant_of-self : goal.invariant_of-self
invariant_of-self c =
    let changed = c.reseated-self-inside.ensures ∙ ap (map (reseated (c.args.place ∷ []) Missing None)) c.as_slice.ensures.value in
    reseated_made c.self.inside c.reseated-self-inside.result (c.args.place ∷ []) c.self.invariant Missing None changed

pub returns : goal.returns
returns c =
    let changed = c.reseated-self-inside.ensures ∙ ap (map (reseated (c.args.place ∷ []) Missing None)) c.as_slice.ensures.value in
    lost_view c.self.inside c.reseated-self-inside.result (c.args.place ∷ []) c.self.invariant changed
    ∙ ap (losing (c.args.place ∷ [])) c.self.view_is
