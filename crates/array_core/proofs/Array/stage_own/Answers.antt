use Rattle.std.proofs.Common.{◌≤◌, List, map, ap, subst, sym, ◌∙◌}
use Rattle.array_model.specs.View.{View}
use Rattle.array_core.specs.declared.slots.Slot.{Slot}
use Rattle.array_core.specs.Staging.{AddsSupers, AddsSupersOf}
use Rattle.array_core.proofs.Truths.{truth_facts}
use Rattle.array_core.proofs.Seating.{slots_viewed}
use Rattle.array_image.specs.SoundArray.{first_unsynced}
use Rattle.array_core.proofs.Adding.{low_places}
use Rattle.array_core.proofs.Array.stage_own.Goals as goal

pub stage_slots-requires-clause-roles : goal.stage_slots-requires-clause-roles
stage_slots-requires-clause-roles c = (truth_facts c.self.inside.truth c.self.invariant.truth).roles

pub stage_slots-requires-clause-places : goal.stage_slots-requires-clause-places
stage_slots-requires-clause-places c =
    low_places c.as_slice.result.now c.self.inside.truth (ap (map (λ s. s.place)) c.as_slice.ensures.value ∙ c.self.invariant.slots) c.self.invariant.truth

pub returns-clause-added : goal.returns-clause-added
returns-clause-added c =
    subst (λ (v : View). AddsSupersOf v c.args.log.now.added c.stage_slots.new.log.added) c.self.view_is
    (subst (λ (slots : List Slot). AddsSupers c.self.inside.number c.self.inside.truth slots c.args.log.now.added c.stage_slots.new.log.added)
    (c.as_slice.ensures.value ∙ sym (slots_viewed c.self.inside c.self.invariant.slots)) c.stage_slots.ensures.added)

pub returns-clause-unsynced : goal.returns-clause-unsynced
returns-clause-unsynced c = subst (λ (v : View). first_unsynced v.truth ≤ v.resync) c.self.view_is c.self.invariant.unsynced
