use Rattle.std.proofs.Common.{◌≡◌, ◌≤◌, ◌+◌, ◌*◌, ◌++◌, length}
use Rattle.std.specs.List.{AllByRecursion, flat_map}
use Rattle.lvm_text.specs.Printed.{LvInRange, IsPrintableLv, lv_text, segment_total}
use Rattle.lvm_text.proofs.printer.lvs.Given as goal

abbrev pub invariant-loop-first : goal.invariant-loop-first
invariant-loop-first l =
    (AllByRecursion IsPrintableLv l.rest) × (256 * length l.rest + 224 * segment_total l.rest ≤ l.into.spare)
    × (l.into.bytes ++ flat_map lv_text l.rest ≡ l.fn.into.bytes ++ flat_map lv_text l.lvs)
    × (length l.into.bytes + (256 * length l.rest + 224 * segment_total l.rest) ≤ length l.fn.into.bytes + (256 * length l.lvs + 224 * segment_total l.lvs))
    × (length l.fn.into.bytes + l.fn.into.spare ≤ length l.into.bytes + l.into.spare)
    × (AllByRecursion LvInRange l.rest → AllByRecursion LvInRange l.lvs)

abbrev pub decreases-loop-first : goal.decreases-loop-first
decreases-loop-first l = length l.rest
