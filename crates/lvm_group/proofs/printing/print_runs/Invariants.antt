use Rattle.std.proofs.Common.{◌≡◌, ◌≤◌, ◌<◌, ◌+◌, ◌*◌, ◌++◌, length, map}
use Rattle.std.specs.List.{AllByRecursion}
use Rattle.lvm_text.specs.Printed.{SegmentInRange, IsPrintableSegment, segments_text}
use Rattle.lvm_group.specs.declared.runs.Run.{Run}
use Rattle.lvm_group.specs.Own.{segment_of}
use Rattle.lvm_group.proofs.printing.print_runs.Given as goal

abbrev pub invariant-loop-run : goal.invariant-loop-run
invariant-loop-run l = record {
  few : AllByRecursion (λ (run : Run). run.array < 16) l.rest;
  text : l.into.bytes ++ segments_text (l.before + 1) (map segment_of l.rest) ≡ l.fn.into.bytes ++ segments_text 1 (map segment_of l.runs);
  spare : 224 * length l.rest ≤ l.into.spare;
  short : length l.into.bytes + 224 * length l.rest ≤ length l.fn.into.bytes + 224 * length l.runs;
  room : length l.fn.into.bytes + l.fn.into.spare ≤ length l.into.bytes + l.into.spare;
  before : l.before + length l.rest ≡ length l.runs;
  printable : AllByRecursion IsPrintableSegment (map segment_of l.rest) → AllByRecursion IsPrintableSegment (map segment_of l.runs);
  range : AllByRecursion SegmentInRange (map segment_of l.rest) → AllByRecursion SegmentInRange (map segment_of l.runs);
}

abbrev pub decreases-loop-run : goal.decreases-loop-run
decreases-loop-run l = length l.rest
