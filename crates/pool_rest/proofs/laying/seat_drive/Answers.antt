use Rattle.std.proofs.Common.{sym, ◌∙◌, arith, lit<}
use Rattle.pool_scan.proofs.Seated.{seat_by_stands}
use Rattle.pool_rest.proofs.Laid.{free_place}
use Rattle.pool_rest.proofs.laying.seat_drive.Goals as goal

pub lay_log-requires-clause-disk : goal.lay_log-requires-clause-disk
lay_log-requires-clause-disk g c =
    let few = (seat_by_stands c.args.state.now c.args.scan.now.disks.items c.args.place c.in-Some.disk (sym c.seat.ensures.chosen ∙ c.in-Some.is)).0 in
    omega (arith, few, c.requires.count)

pub lay_log-requires-clause-free : goal.lay_log-requires-clause-free
lay_log-requires-clause-free g c = λ p at.
    free_place _ _ c.args.state.now c.args.place c.in-Some.disk p _ _ c.requires.laid (sym c.seat.ensures.chosen ∙ c.in-Some.is) at

pub push-requires : goal.push-requires
push-requires g c =
    let few = c.requires.laid.few in
    (lit< tt, omega (arith, few, c.requires.place))
