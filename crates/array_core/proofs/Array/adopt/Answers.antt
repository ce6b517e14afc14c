use Rattle.std.proofs.Common.{List, map, ap, ◌∙◌}
use Rattle.array_core.specs.declared.slots.Slot.{Slot}
use Rattle.array_core.specs.Slots.{places_by}
use Rattle.array_core.specs.Superblocks.{adopted, adopted_slot}
use Rattle.array_core.proofs.Truths.{truth_few}
use Rattle.array_core.proofs.Adopting.{adopted_made, adopted_view}
use Rattle.array_core.proofs.Array.adopt.Goals as goal

pub adopted_slots-self-inside-requires : goal.adopted_slots-self-inside-requires
adopted_slots-self-inside-requires c = truth_few c.args.change.now.truth c.requires

pub invariant_of-self : goal.invariant_of-self
invariant_of-self c =
    let t = c.args.change.now.truth in
    let changed =
    c.adopted_slots-self-inside.ensures
    ∙ ap (λ (slots : List Slot). map (adopted_slot slots c.args.change.now) (places_by t)) c.as_slice.ensures.value in
    adopted_made c.self.inside c.args.change.now c.copied-self-inside.result c.adopted_slots-self-inside.result
    c.adopted_resync-self-inside.result c.adopted_mark-self-inside.result
    c.self.invariant c.copied-self-inside.ensures changed c.adopted_resync-self-inside.ensures c.adopted_mark-self-inside.ensures c.requires

pub returns : goal.returns
returns c =
    let t = c.args.change.now.truth in
    let changed =
    c.adopted_slots-self-inside.ensures
    ∙ ap (λ (slots : List Slot). map (adopted_slot slots c.args.change.now) (places_by t)) c.as_slice.ensures.value in
    adopted_view c.self.inside c.args.change.now c.copied-self-inside.result c.adopted_slots-self-inside.result
    c.adopted_resync-self-inside.result c.adopted_mark-self-inside.result
    c.self.invariant c.copied-self-inside.ensures changed c.adopted_resync-self-inside.ensures c.adopted_mark-self-inside.ensures
    ∙ ap (adopted c.args.change.now) c.self.view_is
