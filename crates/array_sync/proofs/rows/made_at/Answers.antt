use Rattle.std.proofs.Common.{arith}
use Rattle.sync_laws.proofs.Sources.{one_made}
use Rattle.array_sync.proofs.rows.made_at.Goals as goal

pub returns-clause-low : goal.returns-clause-low
returns-clause-low c =
    let one = one_made c.args.array.now c.args.sector c.rules.ensures in
    let low = one.1 in
    let members = c.requires.members in
    let end = c.loop-position-test.false in
    let last = c.loop-position.auto.position-end in
    let at = (c.loop-position.invariant one.0 (omega (arith, low, members, end, last)) one.2).0 in
    omega (arith, low, members, at)

pub returns-clause-made : goal.returns-clause-made
returns-clause-made c =
    let one = one_made c.args.array.now c.args.sector c.rules.ensures in
    let low = one.1 in
    let members = c.requires.members in
    let end = c.loop-position-test.false in
    let last = c.loop-position.auto.position-end in
    (c.loop-position.invariant one.0 (omega (arith, low, members, end, last)) one.2).1
