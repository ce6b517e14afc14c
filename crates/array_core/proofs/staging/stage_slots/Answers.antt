use Rattle.std.proofs.Common.{List, refl, ap, subst, ◌∙◌, arith}
use Rattle.std.proofs.lemmas.List.{take_all}
use Rattle.std.proofs.lemmas.Option.{slice_get-get_or}
use Rattle.log_laws.specs.View.{LogView}
use Rattle.array_core.specs.declared.slots.Slot.{Slot}
use Rattle.array_core.specs.Staging.{AddsSupers}
use Rattle.array_core.proofs.Adding.{adds_none, adds_more}
use Rattle.array_core.proofs.staging.stage_slots.Goals as goal

pub loop-slot-init : goal.loop-slot-init
loop-slot-init c = record { added = adds_none c.args.number c.args.truth.now c.args.log.now.added; few = omega arith; log = refl }

pub stage_slot-requires-clause-place : goal.stage_slot-requires-clause-place
stage_slot-requires-clause-place c = c.requires.places c.loop-slot.slot-index _ (slice_get-get_or c.args.slots.now c.loop-slot.slot-index _ c.loop-slot-test.true)

pub loop-slot-preserved : goal.loop-slot-preserved
loop-slot-preserved c = record {
  added =
      adds_more c.args.number c.args.truth.now c.args.slots.now c.loop-slot.slot-index _ c.args.log.now.added c.loop-slot.log.added c.stage_slot.new.log.added
      c.loop-slot-test.true c.loop-slot.invariant.added c.stage_slot.ensures.added;
  few = (let more = c.stage_slot.ensures.few in let before = c.loop-slot.invariant.few in omega (arith, more, before));
  log = c.stage_slot.ensures.log ∙ ap (λ (l : LogView). record l { added = c.stage_slot.new.log.added }) c.loop-slot.invariant.log;
}

pub returns-clause-added : goal.returns-clause-added
returns-clause-added c =
    subst (λ (ss : List Slot). AddsSupers c.args.number c.args.truth.now ss c.args.log.now.added c.loop-slot.log.added)
    (take_all c.loop-slot.slot-index c.args.slots.now (omega arith)) c.loop-slot.invariant.added

pub returns-clause-log : goal.returns-clause-log
returns-clause-log c = c.loop-slot.invariant.log
