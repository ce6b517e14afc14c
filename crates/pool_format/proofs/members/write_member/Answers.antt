use Rattle.std.proofs.Common.{◌≡◌, ◌+◌, ◌-◌, ◌<◌, ℕ, List, length, unwrap_or, sym, ap, subst, ◌∙◌, arith}
use Rattle.rack.specs.Seen.{IsLive}
use Rattle.gpt_table.specs.Disk.{now_on}
use Rattle.pool_format.specs.declared.planning.NewArray.{NewArray}
use Rattle.pool_format.specs.Data.{IsMemberData, array_sector, group_sector}
use Rattle.new_array.specs.Supers.{role_of}
use Rattle.pool_format.specs.Writing.{InData, InRows}
use Rattle.pool_format.proofs.Laying.{lays_weaker, member_inside}
use Rattle.pool_format.proofs.Leaving.{on_made}
use Rattle.pool_format.proofs.Opening.{members_few}
use Rattle.new_array.proofs.Roles.{role_low}
use Rattle.pool_format.proofs.Written.{group_data}
use Rattle.pool_format.proofs.members.write_member.Goals as goal

pub overflow_add-member : goal.overflow_add-member
overflow_add-member g c =
    let in_it = member_inside c.args.plan.now (g.R.Rack.seen c.args.rack.now) c.requires.plan c.requires.room c.args.number c.args.place c.array_at-array.result.now
    c.array_at-array.ensures (sym c.has_member.ensures ∙ c.if-not-has_member.false) in
    omega (arith, in_it.fits, in_it.small)

pub write_rows-requires-clause-members : goal.write_rows-requires-clause-members
write_rows-requires-clause-members g c =
    let a = c.array_at-array.result.now in
    let array = c.requires.plan.each c.args.number a c.array_at-array.ensures in
    let two = array.least in
    let few = members_few a c.args.plan.now.extent (length c.args.plan.now.units.items) array c.requires.plan.most in
    record { least = omega (arith, two, c.len.ensures.value); most = omega (arith, few, c.len.ensures.value) }

pub write_rows-requires-clause-position : goal.write_rows-requires-clause-position
write_rows-requires-clause-position g c =
    let a = c.array_at-array.result.now in
    let low = role_low a.members.items c.args.place (sym c.has_member.ensures ∙ c.if-not-has_member.false) in
    let position = c.from.ensures ∙ c.role_of.ensures ∙ ap (λ (xs : List ℕ). role_of xs c.args.place) c.as_slice.ensures.value in
    omega (arith, low, position, c.len.ensures.value)

pub write_rows-requires-clause-bounded : goal.write_rows-requires-clause-bounded
write_rows-requires-clause-bounded g c =
    let in_it = member_inside c.args.plan.now (g.R.Rack.seen c.args.rack.now) c.requires.plan c.requires.room c.args.number c.args.place c.array_at-array.result.now
    c.array_at-array.ensures (sym c.has_member.ensures ∙ c.if-not-has_member.false) in
    omega (arith, in_it.fits, in_it.small)

pub returns-clause-lays : goal.returns-clause-lays
returns-clause-lays g c =
    let a = c.array_at-array.result.now in
    let place = c.args.place in
    lays_weaker (InRows place (a.first + 2048) a.size) (InData c.args.plan.now place c.args.number) (g.R.Rack.seen c.args.rack.now) (g.R.Rack.seen c.write_rows.new.rack) c.write_rows.result
    (λ d s v may.
    let least = may.1 in
    let most = may.2 in (
      may.0,
      record {
        array = a;
        at = c.array_at-array.ensures;
        among = sym c.has_member.ensures ∙ c.if-not-has_member.false;
        row = s - (a.first + 2048);
        within = omega (arith, least, most);
        sector_is = omega (arith, least);
      },
    ))
    c.write_rows.ensures.lays

pub returns-clause-stands : goal.returns-clause-stands
returns-clause-stands g c =
    let plan = c.args.plan.now in
    let birth = c.args.birth.now in
    let group = c.args.group.now in
    let place = c.args.place in
    let number = c.args.number in
    let a = c.array_at-array.result.now in
    let x = g.R.Rack.seen c.args.rack.now in
    let y = g.R.Rack.seen c.write_rows.new.rack in
    let position : c.from.result ≡ role_of a.members.items place = c.from.ensures ∙ c.role_of.ensures ∙ ap (λ (xs : List ℕ). role_of xs place) c.as_slice.ensures.value in
    on_made c.write_rows.result
    (λ rows f here among s below live.
    let same : a ≡ f = ap (λ o. unwrap_or o a) (sym c.array_at-array.ensures ∙ here) in
    subst (λ (e : NewArray). s < e.size → IsLive x y place (e.first + 2048 + s) → IsMemberData (length e.members.items) (array_sector plan birth number) (role_of e.members.items place) s (now_on y place (e.first + 2048 + s))) same
    (λ inside alive.
    group_data plan birth group number (length a.members.items) (role_of a.members.items place) s (now_on y place (a.first + 2048 + s)) c.requires.group
    (subst (λ p. IsMemberData (length a.members.items) (group_sector group number) p s (now_on y place (a.first + 2048 + s))) position
    (subst (λ n. IsMemberData n (group_sector group number) c.from.result s (now_on y place (a.first + 2048 + s))) c.len.ensures.value (rows s inside alive)))) below live)
    c.write_rows.ensures.stand
