use Rattle.std.proofs.Common.{◌≡◌, ℕ, Some, option_map, ap, refl, subst, sym, ◌∙◌}
use Rattle.std.specs.Option.{option_and_then}
use Rattle.pool_check.specs.Drives.{found_with, seats_by}
use Rattle.pool_check.specs.Refusing.{damage_by, is_well, part_by}
use Rattle.pool_check.specs.Settling.{IsAgreement}
use Rattle.pool_check.proofs.Parts.{damage_is}
use Rattle.pool_check.proofs.drives.check_place.Goals as goal

pub returns-in-Some-damage_on-clause-halts : goal.returns-in-Some-damage_on-clause-halts
returns-in-Some-damage_on-clause-halts g c o are copied read =
    let s = c.args.state.now in
    let seats = seats_by c.args.seats.now in
    let place = c.args.place in
    let d = c.in-Some.disk in
    let well = is_well c.args.bad in
    let seat = sym c.in-Some.ensures in (
      part_by c.in-Some-damage_on.part,
      ap (option_and_then (damage_by well (found_with s seats o) place)) seat
          ∙ sym (damage_is (g.R.Rack.seen c.args.rack.now) s seats o c.args.layers.now place d c.requires.place
          (c.requires.seating.small d (c.requires.seating.inside place d seat)) seat are read well c.args.scan.now.disks.items c.in-Ok.table.is_own copied
          (c.in-Ok.ensures.has seats o seat are read))
          ∙ sym c.damage_on.ensures ∙ ap (option_map part_by) c.in-Some-damage_on.is,
      refl,
    )

pub returns-in-None-clause-sound : goal.returns-in-None-clause-sound
returns-in-None-clause-sound g c o are copied read =
    let s = c.args.state.now in
    let seats = seats_by c.args.seats.now in
    let place = c.args.place in
    let d = c.in-Some.disk in
    let well = is_well c.args.bad in
    let seat = sym c.in-Some.ensures in
    ap (option_and_then (damage_by well (found_with s seats o) place)) seat
    ∙ sym (damage_is (g.R.Rack.seen c.args.rack.now) s seats o c.args.layers.now place d c.requires.place
    (c.requires.seating.small d (c.requires.seating.inside place d seat)) seat are read well c.args.scan.now.disks.items c.in-Ok.table.is_own copied
    (c.in-Ok.ensures.has seats o seat are read))
    ∙ sym c.damage_on.ensures ∙ ap (option_map part_by) c.in-None.is

pub returns-in-None-clause-agree : goal.returns-in-None-clause-agree
returns-in-None-clause-agree g c d seat =
    let both : Some c.in-Some.disk ≡ Some d = c.in-Some.ensures ∙ seat in
    let same : c.in-Some.disk ≡ d = cc in
    subst (λ (k : ℕ). IsAgreement (g.R.Rack.seen c.args.rack.now) k c.in-Ok.table.is_agreed) same c.in-Ok.ensures.agree
