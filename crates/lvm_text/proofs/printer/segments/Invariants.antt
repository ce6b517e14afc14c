use Rattle.std.proofs.Common.{◌≡◌, ◌≤◌, ◌+◌, ◌*◌, ◌++◌, length}
use Rattle.std.specs.List.{AllByRecursion}
use Rattle.lvm_text.specs.Printed.{SegmentInRange, IsPrintableSegment, segments_text}
use Rattle.lvm_text.proofs.printer.segments.Given as goal

abbrev pub invariant-loop-first : goal.invariant-loop-first
invariant-loop-first l =
    (AllByRecursion IsPrintableSegment l.rest) × (224 * length l.rest ≤ l.into.spare)
    × (l.into.bytes ++ segments_text (l.before + 1) l.rest ≡ l.fn.into.bytes ++ segments_text 1 l.segments)
    × (length l.into.bytes + 224 * length l.rest ≤ length l.fn.into.bytes + 224 * length l.segments)
    × (length l.fn.into.bytes + l.fn.into.spare ≤ length l.into.bytes + l.into.spare)
    × (l.before + length l.rest ≡ length l.segments)
    × (AllByRecursion SegmentInRange l.rest → AllByRecursion SegmentInRange l.segments)

abbrev pub decreases-loop-first : goal.decreases-loop-first
decreases-loop-first l = length l.rest
