use Rattle.std.proofs.Common.{arith}
use Rattle.array_core.specs.Seats.{heeded}
use Rattle.raid_laws.proofs.Each.{changed_first, changed_more, changed_all}
use Rattle.raid_rack.proofs.losses.heed_all.Goals as goal

pub loop-array-init : goal.loop-array-init
loop-array-init c = changed_first heeded c.args.arrays.now

pub loop-array-preserved : goal.loop-array-preserved
loop-array-preserved c =
    changed_more heeded c.args.arrays.now c.loop-array.arrays c.loop-array.array-index _ c.heed.new.self
    (omega arith) c.loop-array.invariant c.heed.ensures

pub returns : goal.returns
returns c = changed_all heeded c.args.arrays.now c.loop-array.arrays c.loop-array.array-index c.loop-array-test.false c.loop-array.invariant
