use Rattle.std.proofs.Common.{ℕ, subst, below_more}
use Rattle.lvm_label.specs.Label.{IsLabel}
use Rattle.lvm_group.specs.Writing.{own_label}
use Rattle.lvm_group.proofs.writing.own_labels_fit.Goals as goal

pub loop-array-preserved : goal.loop-array-preserved
loop-array-preserved g c =
    below_more _ _ c.loop-array.invariant
    (subst (λ (size : ℕ). IsLabel (own_label c.args.pool.now.0 c.loop-array.array size)) c.sectors.ensures.number c.label_sector.ensures.is_label)
