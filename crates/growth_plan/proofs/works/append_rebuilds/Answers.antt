use Rattle.std.proofs.Common.{ℕ, Option, ap}
use Rattle.growth_plan.specs.Book.{Standing}
use Rattle.growth_plan.specs.Works.{rebuilds, rebuilds_on}
use Rattle.growth_plan.proofs.Appending.{appends_more, appends_same}
use Rattle.growth_plan.proofs.works.append_rebuilds.Goals as goal

pub loop-number-preserved : goal.loop-number-preserved
loop-number-preserved c =
    let here : Standing = record { number = c.loop-number.number; top = 0; now = c.index-arrays-number.result } in
    appends_more (rebuilds c.args.state.now) c.args.arrays.now c.loop-number.number c.index-arrays-number.result
    c.args.tally.now c.loop-number.tally c.append_rebuild.new.tally
    c.loop-number-test.true c.index-arrays-number.is c.loop-number.invariant
    (appends_same c.loop-number.tally c.append_rebuild.new.tally _ _ c.append_rebuild.ensures
    (ap (λ (place : Option ℕ). rebuilds_on place here) c.rebuilt-rebuilt.ensures))
