use Rattle.std.proofs.Common.{◌≡◌, ◌+◌, length, Ok, refl, sym, ap, ◌∙◌, arith}
use Rattle.std.proofs.lemmas.List.FromFn.{length-map-range_with_len}
use Rattle.md_super.specs.declared.superblock.Super.{Super}
use Rattle.pool_format.specs.Drives.{IsBlockOf}
use Rattle.new_array.specs.Supers.{role_of}
use Rattle.pool_format.specs.Parts.{new_super}
use Rattle.pool_format.proofs.Laying.{lays_write, member_inside}
use Rattle.pool_format.proofs.Leaving.{super_written}
use Rattle.pool_format.specs.Writing.{InSuper}
use Rattle.pool_format.proofs.drives.write_super.Goals as goal

pub encode-block-requires : goal.encode-block-requires
encode-block-requires g c =
    ap (λ (t : Super). length t.roles.items) c.new_super.ensures
    ∙ length-map-range_with_len (role_of c.array_at-array.result.now.members.items) 0 128

pub overflow_add-array : goal.overflow_add-array
overflow_add-array g c =
    let in_it = member_inside c.args.plan.now (g.R.Rack.seen c.args.rack.now) c.requires.plan c.requires.room c.args.number c.args.place c.array_at-array.result.now
    c.array_at-array.ensures (sym c.has_member.ensures ∙ c.if-not-has_member.false) in
    omega (arith, in_it.fits, in_it.small)

pub write-requires-clause-disk : goal.write-requires-clause-disk
write-requires-clause-disk g c =
    (member_inside c.args.plan.now (g.R.Rack.seen c.args.rack.now) c.requires.plan c.requires.room c.args.number c.args.place c.array_at-array.result.now
    c.array_at-array.ensures (sym c.has_member.ensures ∙ c.if-not-has_member.false)).disk

pub write-requires-clause-sector : goal.write-requires-clause-sector
write-requires-clause-sector g c =
    let in_it = member_inside c.args.plan.now (g.R.Rack.seen c.args.rack.now) c.requires.plan c.requires.room c.args.number c.args.place c.array_at-array.result.now
    c.array_at-array.ensures (sym c.has_member.ensures ∙ c.if-not-has_member.false) in
    omega (arith, in_it.fits)

pub returns-clause-lays : goal.returns-clause-lays
returns-clause-lays g c =
    let a = c.array_at-array.result.now in
    let among = sym c.has_member.ensures ∙ c.if-not-has_member.false in
    let in_it = member_inside c.args.plan.now (g.R.Rack.seen c.args.rack.now) c.requires.plan c.requires.room c.args.number c.args.place a c.array_at-array.ensures among in
    lays_write (InSuper c.args.plan.now c.args.place c.args.number) (g.R.Rack.seen c.args.rack.now) (g.R.Rack.seen c.write.new.self) c.args.place (a.first + 8) c.encode-block.result c.write.result in_it.disk
    (refl, record { array = a; at = c.array_at-array.ensures; among = among; sector_is = refl }) c.write.ensures.writes

pub returns-clause-stands : goal.returns-clause-stands
returns-clause-stands g c =
    let a = c.array_at-array.result.now in
    let s = new_super c.args.birth.now a c.args.number c.args.place in
    let long : length c.encode-block.result ≡ 512 = search in
    let block : IsBlockOf s c.encode-block.result = record {
      sized = long;
      says = c.encode-block.ensures.read_back ∙ ap Ok c.new_super.ensures;
      elsewhere = c.encode-block.ensures.elsewhere;
    } in
    super_written c.args.plan.now c.args.birth.now c.args.place c.args.number a (g.R.Rack.seen c.args.rack.now) (g.R.Rack.seen c.write.new.self) c.encode-block.result c.write.result
    c.array_at-array.ensures block c.write.ensures.writes
