use Rattle.std.proofs.Common.{◌≡◌, ◌-◌, ◌≤◌, length}
use Rattle.lvm_label.specs.Label.{areas_at}
use Rattle.lvm_label.proofs.Areas.{with_front}
use Rattle.lvm_label.proofs.label.areas_of.Given as goal

abbrev pub invariant-loop-rest : goal.invariant-loop-rest
invariant-loop-rest l = (with_front l.areas.items (areas_at (8 - length l.areas.items) l.rest) ≡ areas_at 8 l.bytes) × (length l.areas.items ≤ 8)

abbrev pub decreases-loop-rest : goal.decreases-loop-rest
decreases-loop-rest l = length l.rest
