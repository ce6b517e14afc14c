use Rattle.std.proofs.Common.{length, Some, slice_get, sym, ◌∙◌, subst, ap, ltb-true, arith}
use Rattle.array_model.specs.View.{View}
use Rattle.array_core.specs.Stands.{IsSlot}
use Rattle.array_core.proofs.Rules.{slot_read, slot_is, slot_count}
use Rattle.array_core.proofs.Array.slot.Goals as goal

pub returns-in-Some : goal.returns-in-Some
returns-in-Some c =
    let low = ltb-true _ _ (sym c.in-Some.ensures.lookup.0) in
    let count = slot_count c.self.inside c.self.invariant in
    let is = ap (λ items. length items) c.deref.ensures.0 in
    subst (λ (v : View). IsSlot v c.args.position c.in-Some.slot.now) c.self.view_is
    (slot_is c.self.inside c.args.position c.in-Some.slot.now c.self.invariant (omega (arith, low, count, is))
    (ap (λ items. slice_get items c.args.position) (sym c.deref.ensures.0)
    ∙ slot_read c.deref.result.now c.args.position c.in-Some.slot.now low ∙ ap Some (sym c.in-Some.ensures.lookup.1)))

pub returns-in-None : goal.returns-in-None
returns-in-None c =
    let past = c.in-None.ensures.lookup.3 in
    let count = slot_count c.self.inside c.self.invariant in
    let is = ap (λ items. length items) c.deref.ensures.0 in
    let disks = ap (λ (v : View). v.truth.raid_disks) c.self.view_is in
    absurd (omega (arith, past, count, is, disks, c.requires))
