use Rattle.std.proofs.Common.{◌≡◌, ◌≤◌, ℕ, List, map, ap, subst, sym, ◌∙◌}
use Rattle.array_model.specs.View.{View}
use Rattle.array_core.specs.declared.slots.Slot.{Slot}
use Rattle.array_core.specs.Slots.{slots_of, places_by}
use Rattle.array_core.specs.Superblocks.{adopted, adopted_slot, adopted_slots}
use Rattle.array_core.specs.Staging.{AddsSupers}
use Rattle.array_core.proofs.Truths.{truth_facts, truth_few}
use Rattle.array_core.proofs.Seating.{slots_viewed}
use Rattle.array_image.specs.SoundArray.{first_unsynced}
use Rattle.array_core.proofs.Adopting.{adopted_unsynced}
use Rattle.array_core.proofs.Adding.{low_places, adopted_viewed, adopted_places}
use Rattle.array_core.proofs.Array.stage.Goals as goal

pub adopted_slots-slots-requires : goal.adopted_slots-slots-requires
adopted_slots-slots-requires c = truth_few c.args.change.now.truth c.requires.truth

pub stage_slots-requires-clause-roles : goal.stage_slots-requires-clause-roles
stage_slots-requires-clause-roles c = (truth_facts c.args.change.now.truth c.requires.truth).roles

pub stage_slots-requires-clause-places : goal.stage_slots-requires-clause-places
stage_slots-requires-clause-places c =
    let change = c.args.change.now in
    let is : c.as_slice-2.result.now ≡ adopted_slots c.args.self.now change =
    c.as_slice-2.ensures.value ∙ c.adopted_slots-slots.ensures
    ∙ ap (λ (slots : List Slot). map (adopted_slot slots change) (places_by change.truth)) (c.as_slice.ensures.value ∙ sym (slots_viewed c.self.inside c.self.invariant.slots))
    ∙ ap (λ (v : View). adopted_slots v change) c.self.view_is in
    low_places c.as_slice-2.result.now change.truth (ap (map (λ s. s.place)) is ∙ adopted_places change c.args.self.now) c.requires.truth

pub returns-clause-added : goal.returns-clause-added
returns-clause-added c =
    let change = c.args.change.now in
    let is : c.as_slice-2.result.now ≡ adopted_slots c.args.self.now change =
    c.as_slice-2.ensures.value ∙ c.adopted_slots-slots.ensures
    ∙ ap (λ (slots : List Slot). map (adopted_slot slots change) (places_by change.truth)) (c.as_slice.ensures.value ∙ sym (slots_viewed c.self.inside c.self.invariant.slots))
    ∙ ap (λ (v : View). adopted_slots v change) c.self.view_is in
    subst (λ (n : ℕ). AddsSupers n change.truth (slots_of (adopted change c.args.self.now)) c.args.log.now.added c.stage_slots.new.log.added) (ap (λ (v : View). v.number) c.self.view_is)
    (subst (λ (slots : List Slot). AddsSupers c.self.inside.number change.truth slots c.args.log.now.added c.stage_slots.new.log.added) (is ∙ sym (adopted_viewed change c.args.self.now)) c.stage_slots.ensures.added)

pub returns-clause-unsynced : goal.returns-clause-unsynced
returns-clause-unsynced c =
    subst (λ (v : View). first_unsynced c.args.change.now.truth ≤ (adopted c.args.change.now v).resync) c.self.view_is
    (adopted_unsynced c.self.inside c.args.change.now c.self.invariant)
