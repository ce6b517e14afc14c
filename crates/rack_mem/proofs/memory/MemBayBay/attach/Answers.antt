use Rattle.std.proofs.Common.{◌≡◌, ◌++◌, ◌∷◌, [], Some, false, length, refl, sym, subst, arith, ap, ◌∙◌, Ok, Err, rules}
use Rattle.std.proofs.lemmas.List.{length_push}
use Rattle.rack.specs.declared.AttachFault.TheVariants.{Memory as NoRoom}
use Rattle.rack.specs.Shelf.{Attaches}
use Rattle.rack_mem.specs.declared.memory.Attached.{Attached}
use Rattle.rack_mem.specs.Memory.{Memory, seen_of, shelf_of, first_named, names_of, AllDiffer}
use Rattle.rack_mem.specs.History.{AreOn}
use Rattle.rack_mem.specs.MemBay.{memory}
use Rattle.rack_mem.proofs.Attaching.{not_attached, attached_at, first_name, is_twice, is_failed, is_full, is_added, names_differ_then}
use Rattle.rack_mem.proofs.Histories.{AreOn-more}
use Rattle.rack_mem.proofs.memory.MemBayBay.attach.Goals as goal

pub returns-in-Some-clause-attaches : goal.returns-in-Some-clause-attaches
returns-in-Some-clause-attaches c =
    is_twice (memory c.args.self.now) c.args.name.now c.in-Some.disk c.args.self.now.names_differ
    (rw (← c.as_bytes-name.ensures.value) (attached_at (memory c.args.self.now) c.as_bytes-name.result.now c.in-Some.disk c.in-Some.ensures))

pub returns-in_default-first_named-clause-attaches : goal.returns-in_default-first_named-clause-attaches
returns-in_default-first_named-clause-attaches c =
    is_failed (memory c.args.self.now) c.args.name.now c.one_more-self.result
    (rw (← c.as_bytes-name.ensures.value) (not_attached (memory c.args.self.now) c.as_bytes-name.result.now c.in_default.ensures))
    c.one_more-self.ensures.later c.one_more-self.ensures.rose

pub returns-then-disk-clause-attaches : goal.returns-then-disk-clause-attaches
returns-then-disk-clause-attaches c =
    is_full (memory c.args.self.now) c.args.name.now
    (rw (← c.as_bytes-name.ensures.value) (not_attached (memory c.args.self.now) c.as_bytes-name.result.now c.in_default.ensures))

pub invariant_of-self-then-is_err-clause-names_differ : goal.invariant_of-self-then-is_err-clause-names_differ
invariant_of-self-then-is_err-clause-names_differ c =
    subst (λ attached. AllDiffer (names_of c.args.self.now.shelf.items attached)) (sym c.reserve.ensures.items) c.args.self.now.names_differ

pub invariant_of-self-then-is_err-clause-attached_first : goal.invariant_of-self-then-is_err-clause-attached_first
invariant_of-self-then-is_err-clause-attached_first c =
    subst (λ attached. AreOn c.args.self.now.calls.items (length attached)) (sym c.reserve.ensures.items) c.args.self.now.attached_first

pub returns-then-is_err-clause-attaches : goal.returns-then-is_err-clause-attaches
returns-then-is_err-clause-attaches c =
    let before : Memory = memory c.args.self.now in
    subst (λ attached. Attaches (seen_of before) (seen_of (record before { attached = attached })) (shelf_of before) (shelf_of (record before { attached = attached })) c.args.name.now (Err NoRoom))
    (sym c.reserve.ensures.items)
    (is_full before c.args.name.now (rw (← c.as_bytes-name.ensures.value) (not_attached before c.as_bytes-name.result.now c.in_default.ensures)))

pub invariant_of-self-2-clause-names_differ : goal.invariant_of-self-2-clause-names_differ
invariant_of-self-2-clause-names_differ c =
    let before : Memory = memory c.args.self.now in
    let x : Attached = record { number = c.in-Some-first_named.number; faults = 0; failed = false } in
    let found : first_named before.shelf c.args.name.now ≡ Some x.number =
    rw (← c.as_bytes-name.ensures.value, ← c.deref.ensures.value) (sym c.in-Some-first_named.ensures) in
    subst (λ attached. AllDiffer (names_of before.shelf attached)) (sym (c.push_within.ensures.items ∙ ap (λ attached. attached ++ x ∷ []) c.reserve.ensures.items))
    (names_differ_then before.shelf before.attached x c.args.name.now
    (rw (← c.as_bytes-name.ensures.value) (not_attached before c.as_bytes-name.result.now c.in_default.ensures))
    (first_name before.shelf c.args.name.now x.number found)
    c.args.self.now.names_differ)

pub invariant_of-self-2-clause-attached_first : goal.invariant_of-self-2-clause-attached_first
invariant_of-self-2-clause-attached_first c =
    AreOn-more c.args.self.now.calls.items _ _
    (omega (arith, ap length c.push_within.ensures.items, ap length c.reserve.ensures.items, length_push c.reserve.new.self.items)) c.args.self.now.attached_first

pub returns-clause-attaches : goal.returns-clause-attaches
returns-clause-attaches c =
    let before : Memory = memory c.args.self.now in
    let x : Attached = record { number = c.in-Some-first_named.number; faults = 0; failed = false } in
    let found : first_named before.shelf c.args.name.now ≡ Some x.number =
    rw (← c.as_bytes-name.ensures.value, ← c.deref.ensures.value) (sym c.in-Some-first_named.ensures) in
    let number : c.len-disk.result ≡ length before.attached = search rules in
    subst (λ attached. Attaches (seen_of before) (seen_of (record before { attached = attached })) (shelf_of before) (shelf_of (record before { attached = attached })) c.args.name.now (Ok c.len-disk.result))
    (sym (c.push_within.ensures.items ∙ ap (λ attached. attached ++ x ∷ []) c.reserve.ensures.items))
    (rw number (is_added before x c.args.name.now c.args.self.now.attached_first found
    (rw (← c.as_bytes-name.ensures.value) (not_attached before c.as_bytes-name.result.now c.in_default.ensures)) refl))
