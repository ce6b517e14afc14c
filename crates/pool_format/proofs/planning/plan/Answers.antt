use Rattle.std.proofs.Common.{ap, subst, sym, ◌∙◌, arith}
use Rattle.std.proofs.Common.{ℕ, Ok, Err, List, refl, length, ◌<◌, ◌≤◌, ◌^◌}
use Rattle.layer_plan.specs.declared.Layer.{Layer}
use Rattle.array_image.specs.Places.{arrays_first}
use Rattle.pool_format.specs.Plan.{arrays_from, slices_before, units_on}
use Rattle.pool_format.proofs.Units.{SaysPlan, all_small, made_planned, many_planned, refused_planned, units_count}
use Rattle.pool_format.proofs.Planned.{planned_of, planned_room, planned_sound, before_small}
use Rattle.pool_format.proofs.planning.plan.Goals as goal

pub returns-then-disks-gt-MAX_DRIVES-clause-planned : goal.returns-then-disks-gt-MAX_DRIVES-clause-planned
returns-then-disks-gt-MAX_DRIVES-clause-planned g c =
    let x = g.R.Rack.seen c.args.rack.now in
    let count = units_count x c.args.extent c.requires.extent c.requires.small in
    many_planned (units_on x c.args.extent) (omega (arith, count, c.disks.ensures, c.if-disks-gt-MAX_DRIVES.true))

pub layout-requires : goal.layout-requires
layout-requires g c =
    all_small (g.R.Rack.seen c.args.rack.now) c.args.extent c.requires.extent c.requires.small c.as_slice.result.now
    (c.as_slice.ensures.value ∙ c.drive_units-all.ensures)

pub arrays_of-requires-clause-room : goal.arrays_of-requires-clause-room
arrays_of-requires-clause-room g c = λ n inside.
    subst (λ (ls : List Layer). slices_before c.args.extent n ls < 2 ^ 62) (sym c.as_slice-in-Ok.ensures.value)
    (
    before_small (g.R.Rack.seen c.args.rack.now) c.args.extent c.requires.extent c.requires.small (omega (arith, c.disks.ensures, c.if-disks-gt-MAX_DRIVES.false))
    c.as_slice.result.now (c.as_slice.ensures.value ∙ c.drive_units-all.ensures) c.in-Ok.layers
    (record { too_few = c.in-Ok.ensures.too_few; too_many = c.in-Ok.ensures.too_many; no_room = c.in-Ok.ensures.no_room }) c.in-Ok.ensures.layers
    n (subst (λ (ls : List Layer). n ≤ length ls) c.as_slice-in-Ok.ensures.value inside)
    (subst (λ (ls : List Layer). length ls ≤ 16) c.as_slice-in-Ok.ensures.value c.as_slice-in-Ok.ensures.fits))

pub returns-in-Ok-clause-planned : goal.returns-in-Ok-clause-planned
returns-in-Ok-clause-planned g c =
    made_planned (units_on (g.R.Rack.seen c.args.rack.now) c.args.extent) c.in-Ok.layers _
    (subst (λ (units : List ℕ). SaysPlan units (Ok c.in-Ok.layers)) (c.as_slice.ensures.value ∙ c.drive_units-all.ensures)
    (record { too_few = c.in-Ok.ensures.too_few; too_many = c.in-Ok.ensures.too_many; no_room = c.in-Ok.ensures.no_room }))

pub returns-in-Ok-clause-plan : goal.returns-in-Ok-clause-plan
returns-in-Ok-clause-plan g c =
    planned_of (g.R.Rack.seen c.args.rack.now) c.args.extent c.requires.extent c.requires.small (omega (arith, c.disks.ensures, c.if-disks-gt-MAX_DRIVES.false))
    c.as_slice.result.now (c.as_slice.ensures.value ∙ c.drive_units-all.ensures) c.in-Ok.layers
    (record { too_few = c.in-Ok.ensures.too_few; too_many = c.in-Ok.ensures.too_many; no_room = c.in-Ok.ensures.no_room }) c.in-Ok.ensures.layers
    _ refl (sym c.as_slice.ensures.value)
    (c.arrays_of.ensures ∙ ap (λ (ls : List Layer). arrays_from arrays_first c.args.extent ls) c.as_slice-in-Ok.ensures.value)
    (subst (λ (ls : List Layer). length ls ≤ 16) c.as_slice-in-Ok.ensures.value c.as_slice-in-Ok.ensures.fits)
    c.in-Ok.ensures.bound c.in-Ok.ensures.tight c.in-Ok.ensures.capacity
    c.in-Ok.ensures.best

pub returns-in-Ok-clause-sound : goal.returns-in-Ok-clause-sound
returns-in-Ok-clause-sound g c =
    planned_sound (g.R.Rack.seen c.args.rack.now) c.args.extent c.requires.extent c.requires.small (omega (arith, c.disks.ensures, c.if-disks-gt-MAX_DRIVES.false))
    c.as_slice.result.now (c.as_slice.ensures.value ∙ c.drive_units-all.ensures) c.in-Ok.layers
    (record { too_few = c.in-Ok.ensures.too_few; too_many = c.in-Ok.ensures.too_many; no_room = c.in-Ok.ensures.no_room }) c.in-Ok.ensures.layers
    _ refl (sym c.as_slice.ensures.value)
    (c.arrays_of.ensures ∙ ap (λ (ls : List Layer). arrays_from arrays_first c.args.extent ls) c.as_slice-in-Ok.ensures.value)
    (subst (λ (ls : List Layer). length ls ≤ 16) c.as_slice-in-Ok.ensures.value c.as_slice-in-Ok.ensures.fits)
    c.in-Ok.ensures.bound c.in-Ok.ensures.tight c.in-Ok.ensures.capacity

pub returns-in-Ok-clause-room : goal.returns-in-Ok-clause-room
returns-in-Ok-clause-room g c =
    planned_room (g.R.Rack.seen c.args.rack.now) c.args.extent c.requires.extent c.requires.small (omega (arith, c.disks.ensures, c.if-disks-gt-MAX_DRIVES.false))
    c.as_slice.result.now (c.as_slice.ensures.value ∙ c.drive_units-all.ensures) c.in-Ok.layers
    (record { too_few = c.in-Ok.ensures.too_few; too_many = c.in-Ok.ensures.too_many; no_room = c.in-Ok.ensures.no_room }) c.in-Ok.ensures.layers
    _ refl (sym c.as_slice.ensures.value)
    (c.arrays_of.ensures ∙ ap (λ (ls : List Layer). arrays_from arrays_first c.args.extent ls) c.as_slice-in-Ok.ensures.value)
    (subst (λ (ls : List Layer). length ls ≤ 16) c.as_slice-in-Ok.ensures.value c.as_slice-in-Ok.ensures.fits)
    c.in-Ok.ensures.bound c.in-Ok.ensures.tight c.in-Ok.ensures.capacity

pub returns-in-Err-clause-planned : goal.returns-in-Err-clause-planned
returns-in-Err-clause-planned g c =
    refused_planned (units_on (g.R.Rack.seen c.args.rack.now) c.args.extent) c.in-Err.fault
    (subst (λ (units : List ℕ). SaysPlan units (Err c.in-Err.fault)) (c.as_slice.ensures.value ∙ c.drive_units-all.ensures)
    (record { too_few = c.in-Err.ensures.too_few; too_many = c.in-Err.ensures.too_many; no_room = c.in-Err.ensures.no_room }))
