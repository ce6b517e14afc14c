use Rattle.std.proofs.Common.{ℕ, ◌<◌, get_or}
use Rattle.lvm_label.specs.Label.{IsLabel}
use Rattle.lvm_group.specs.Writing.{own_label}
use Rattle.lvm_group.proofs.writing.labels_fit.Given as goal

abbrev pub invariant-loop-array : goal.invariant-loop-array
invariant-loop-array l = (array : ℕ) → array < l.array → IsLabel (own_label l.pool.0 array (get_or l.sizes array 0))
