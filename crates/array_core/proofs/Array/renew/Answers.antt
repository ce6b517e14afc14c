use Rattle.std.proofs.Common.{◌∷◌, [], Some, map, ap, ◌∙◌}
use Rattle.array_model.specs.declared.Seat.TheVariants.{Rebuilding}
use Rattle.array_core.specs.Seats.{renewed, reseated}
use Rattle.array_core.proofs.Seating.{reseated_made, renewed_view}
use Rattle.array_core.proofs.Array.renew.Goals as goal

pub invariant_of-self : goal.invariant_of-self
invariant_of-self c =
    let device = c.child_id-device.result in
    let changed =
    c.reseated-self-inside.ensures ∙ ap (map (reseated (c.args.place ∷ []) (Rebuilding 0) (Some device))) c.as_slice.ensures.value in
    reseated_made c.self.inside c.reseated-self-inside.result (c.args.place ∷ []) c.self.invariant (Rebuilding 0) (Some device) changed

pub returns : goal.returns
returns c =
    let device = c.child_id-device.result in
    let changed =
    c.reseated-self-inside.ensures ∙ ap (map (reseated (c.args.place ∷ []) (Rebuilding 0) (Some device))) c.as_slice.ensures.value in
    renewed_view c.self.inside c.reseated-self-inside.result c.args.place c.args.drive.now device c.self.invariant c.child_id-device.ensures changed
    ∙ ap (renewed c.args.place c.args.drive.now) c.self.view_is
