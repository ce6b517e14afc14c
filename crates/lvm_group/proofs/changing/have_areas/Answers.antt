use Rattle.std.proofs.Common.{arith, below_more}
use Rattle.lvm_group.proofs.changing.have_areas.Goals as goal

pub loop-array-preserved : goal.loop-array-preserved
loop-array-preserved g c =
    below_more _ _ c.loop-array.invariant (let number = c.sectors.ensures.number in let large = c.if-sectors-lt2048.false in omega arith)
