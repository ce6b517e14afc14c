use Rattle.std.proofs.Common.{◌≡◌, ℕ, true, false, subst, arith}
use Rattle.array_core.specs.Superblocks.{raised}
use Rattle.reshape_laws.specs.Ahead.{ahead_by}
use Rattle.reshape_laws.specs.Reshapes.{Reshapes}
use Rattle.array_reshape.proofs.steps.row.Goals as goal

pub returns-in-Ok-clause-reshapes : goal.returns-in-Ok-clause-reshapes
returns-in-Ok-clause-reshapes g c =
    let v = c.args.array.now in
    let does = c.in-Ok.ensures.reshapes in
    let some = does.some in
    let few = does.few in
    subst
    (λ (n : ℕ). Reshapes v (ahead_by v n (raised v.truth.events)) c.rows.new.array c.args.log.now.number c.rows.new.log.number c.args.on.now.items (g.R.Rack.seen c.args.rack.now) (g.R.Rack.seen c.rows.new.rack) true)
    (let one : does.rows ≡ 1 = omega (arith, some, few) in one) does.steps

pub returns-in-Err-clause-reshapes : goal.returns-in-Err-clause-reshapes
returns-in-Err-clause-reshapes g c =
    let v = c.args.array.now in
    let does = c.in-Err.ensures.reshapes in
    let some = does.some in
    let few = does.few in
    subst
    (λ (n : ℕ). Reshapes v (ahead_by v n (raised v.truth.events)) c.rows.new.array c.args.log.now.number c.rows.new.log.number c.args.on.now.items (g.R.Rack.seen c.args.rack.now) (g.R.Rack.seen c.rows.new.rack) false)
    (let one : does.rows ≡ 1 = omega (arith, some, few) in one) does.steps
