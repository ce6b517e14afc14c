use Rattle.std.proofs.Common.{below_more}
use Rattle.lvm_group.proofs.writing.labels_fit.Goals as goal

pub loop-array-preserved : goal.loop-array-preserved
loop-array-preserved c = below_more _ _ c.loop-array.invariant c.label_sector.ensures.is_label
