use Rattle.std.proofs.Common.{arith}
use Rattle.array_core.specs.Seats.{restarted}
use Rattle.raid_laws.proofs.Each.{changed_first, changed_more, changed_all}
use Rattle.raid_rack.proofs.losses.restart_rebuilds.Goals as goal

pub loop-array-init : goal.loop-array-init
loop-array-init c = changed_first restarted c.args.arrays.now

pub loop-array-preserved : goal.loop-array-preserved
loop-array-preserved c =
    changed_more restarted c.args.arrays.now c.loop-array.arrays c.loop-array.array-index _ c.restart_rebuilds.new.self
    (omega arith) c.loop-array.invariant c.restart_rebuilds.ensures

pub returns : goal.returns
returns c = changed_all restarted c.args.arrays.now c.loop-array.arrays c.loop-array.array-index c.loop-array-test.false c.loop-array.invariant
