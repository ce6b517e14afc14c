use Rattle.growth_plan.specs.Works.{resyncs}
use Rattle.growth_plan.proofs.Appending.{appends_more}
use Rattle.growth_plan.proofs.works.append_resyncs.Goals as goal

pub loop-number-preserved : goal.loop-number-preserved
loop-number-preserved c =
    appends_more resyncs c.args.arrays.now c.loop-number.number c.index-arrays-number.result c.args.tally.now c.loop-number.tally c.append.new.self
    c.loop-number-test.true c.index-arrays-number.is c.loop-number.invariant c.append.ensures
