use Rattle.std.proofs.Common.{◌+◌, ◌≤◌, ◌<◌, ◌^◌, length}
use Rattle.lvm_text.proofs.SegmentTable.{SoFar}
use Rattle.lvm_text.proofs.table.table_of.Given as goal

abbrev pub invariant-loop-word : goal.invariant-loop-word
invariant-loop-word l = (SoFar l.table.items l.depth l.rest l.words) × (l.depth + length l.rest ≤ length l.words) × (length l.table.items < 2 ^ 64)

abbrev pub decreases-loop-word : goal.decreases-loop-word
decreases-loop-word l = length l.rest
