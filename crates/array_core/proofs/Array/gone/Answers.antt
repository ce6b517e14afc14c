use Rattle.std.proofs.Common.{None, List, ℕ, map, ap, ap₂, ◌∙◌}
use Rattle.array_model.specs.declared.Seat.TheVariants.{Missing}
use Rattle.array_core.specs.declared.slots.Slot.{Slot}
use Rattle.array_core.specs.Seats.{gone, reseated}
use Rattle.array_core.proofs.Seating.{gone_made, gone_view}
use Rattle.array_core.proofs.Array.gone.Goals as goal

pub invariant_of-self : goal.invariant_of-self
invariant_of-self c =
    let changed =
    c.reseated-self-inside.ensures
    ∙ ap₂ (λ (places : List ℕ) (slots : List Slot). map (reseated places Missing None) slots) c.as_slice-2.ensures.value c.as_slice.ensures.value in
    gone_made c.self.inside c.reseated-self-inside.result c.args.places.now.items c.self.invariant c.joined-self-inside.result changed c.joined-self-inside.ensures

pub returns : goal.returns
returns c =
    let changed =
    c.reseated-self-inside.ensures
    ∙ ap₂ (λ (places : List ℕ) (slots : List Slot). map (reseated places Missing None) slots) c.as_slice-2.ensures.value c.as_slice.ensures.value in
    gone_view c.self.inside c.reseated-self-inside.result c.args.places.now.items c.self.invariant c.joined-self-inside.result changed c.joined-self-inside.ensures
    ∙ ap (gone c.args.places.now.items) c.self.view_is
