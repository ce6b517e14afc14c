use Rattle.std.proofs.Common.{◌≡◌, ◌≤◌, ◌+◌, ◌*◌, ◌++◌, length}
use Rattle.std.specs.List.{AllByRecursion, flat_map}
use Rattle.lvm_text.specs.Printed.{PvInRange, IsPrintablePv, pv_text}
use Rattle.lvm_text.proofs.printer.pvs.Given as goal

abbrev pub invariant-loop-first : goal.invariant-loop-first
invariant-loop-first l =
    (AllByRecursion IsPrintablePv l.rest) × (256 * length l.rest ≤ l.into.spare)
    × (l.into.bytes ++ flat_map pv_text l.rest ≡ l.fn.into.bytes ++ flat_map pv_text l.pvs)
    × (length l.into.bytes + 256 * length l.rest ≤ length l.fn.into.bytes + 256 * length l.pvs)
    × (length l.fn.into.bytes + l.fn.into.spare ≤ length l.into.bytes + l.into.spare)
    × (AllByRecursion PvInRange l.rest → AllByRecursion PvInRange l.pvs)

abbrev pub decreases-loop-first : goal.decreases-loop-first
decreases-loop-first l = length l.rest
