use Rattle.std.proofs.Common.{◌≡◌, ◌+◌, ◌/◌, ◌∙◌, true, false, sym, rules, arith}
use Rattle.std.specs.Prelude.{◌==◌}
use Rattle.std.proofs.lemmas.Result.{IfOk-weaker}
use Rattle.shr_base.specs.Crc.{lvm_crc_of}
use Rattle.lvm_group.specs.Parts.{is_inside}
use Rattle.lvm_group.specs.Reading.{held_on}
use Rattle.rack.proofs.Calling.{several_fewer}
use Rattle.lvm_group.proofs.Calls.{several_same}
use Rattle.lvm_group.proofs.Looking.{held_read}
use Rattle.lvm_group.proofs.GroupRead.{group_said, inside_short, no_text, not_inside, other_sum}
use Rattle.lvm_group.proofs.reading.read_group.Goals as goal

pub returns-then-not-is_inside-clause-group : goal.returns-then-not-is_inside-clause-group
returns-then-not-is_inside-clause-group g c now is =
    let a = g.R.Rack.seen c.args.rack.now in
    let outside : is_inside c.args.area.now c.args.location.now ≡ false = search rules in
    (held_on a c.args.array now, held_read a a c.args.array now, sym (not_inside (held_on a c.args.array now) c.args.area.now c.args.location.now outside))

pub returns-then-not-read_text-clause-group : goal.returns-then-not-read_text-clause-group
returns-then-not-read_text-clause-group g c now is =
    let found = c.read_text.ensures.none c.if-not-read_text.true now is in
    (found.0, found.1, sym (no_text found.0 c.args.area.now c.args.location.now found.2))

pub returns-then-location-lvm_crc-clause-group : goal.returns-then-location-lvm_crc-clause-group
returns-then-location-lvm_crc-clause-group g c now is =
    let a = g.R.Rack.seen c.args.rack.now in
    let held = held_on a c.args.array now in
    let text = c.read_text.ensures.text c.if-not-read_text.false now is in
    let sum : (c.args.location.now.crc == lvm_crc_of c.read_text.new.into.bytes) ≡ false = search rules in
    (held, held_read a (g.R.Rack.seen c.read_text.new.rack) c.args.array now, sym (other_sum held c.args.area.now c.args.location.now c.read_text.new.into.bytes text sum))

pub returns-clause-group : goal.returns-clause-group
returns-clause-group g c =
    let a = g.R.Rack.seen c.args.rack.now in
    let inside : is_inside c.args.area.now c.args.location.now ≡ true = search rules in
    let sum : (c.args.location.now.crc == lvm_crc_of c.read_text.new.into.bytes) ≡ true = search rules in
    IfOk-weaker c.group_of.result _ _ (λ found said now is.
    let held = held_on a c.args.array now in
    let text = c.read_text.ensures.text c.if-not-read_text.false now is in
    let is_said : found ≡ _ = said in (
      held,
      held_read a (g.R.Rack.seen c.read_text.new.rack) c.args.array now,
      is_said ∙ (search rules) ∙ sym (group_said held c.args.area.now c.args.location.now c.read_text.new.into.bytes inside text sum),
    )) c.group_of.ensures

pub returns-then-not-is_inside-clause-several : goal.returns-then-not-is_inside-clause-several
returns-then-not-is_inside-clause-several g c =
    several_same g.R.Rack.once 516 _

pub returns-then-not-read_text-clause-several : goal.returns-then-not-read_text-clause-several
returns-then-not-read_text-clause-several g c =
    let inside : is_inside c.args.area.now c.args.location.now ≡ true = search rules in
    let short = inside_short c.args.area.now c.args.location.now inside in
    several_fewer g.R.Rack.once (c.args.location.now.size / 512 + 4) 516 _ _ (omega (arith, short)) c.read_text.ensures.several

pub returns-then-location-lvm_crc-clause-several : goal.returns-then-location-lvm_crc-clause-several
returns-then-location-lvm_crc-clause-several g c =
    let inside : is_inside c.args.area.now c.args.location.now ≡ true = search rules in
    let short = inside_short c.args.area.now c.args.location.now inside in
    several_fewer g.R.Rack.once (c.args.location.now.size / 512 + 4) 516 _ _ (omega (arith, short)) c.read_text.ensures.several

pub returns-clause-several : goal.returns-clause-several
returns-clause-several g c =
    let inside : is_inside c.args.area.now c.args.location.now ≡ true = search rules in
    let short = inside_short c.args.area.now c.args.location.now inside in
    several_fewer g.R.Rack.once (c.args.location.now.size / 512 + 4) 516 _ _ (omega (arith, short)) c.read_text.ensures.several
