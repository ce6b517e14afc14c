use Rattle.std.proofs.Common.{◌≡◌, ◌≤◌, ◌+◌, ◌*◌, ◌++◌, length}
use Rattle.std.specs.Prelude.{slice_index}
use Rattle.std.specs.List.{AllByRecursion, flat_map}
use Rattle.lvm_text.specs.Printed.{PvInRange, IsPrintablePv, pv_text}
use Rattle.lvm_group.specs.Own.{own_pvs}
use Rattle.lvm_group.proofs.printing.print_pvs.Given as goal

abbrev pub invariant-loop-number : goal.invariant-loop-number
invariant-loop-number l = record {
  text : l.into.bytes ++ flat_map pv_text (own_pvs l.pool.0 (slice_index l.sectors) l.array l.rest) ≡ l.fn.into.bytes ++ flat_map pv_text (own_pvs l.pool.0 (slice_index l.sectors) 0 l.numbers);
  spare : 256 * length l.rest ≤ l.into.spare;
  short : length l.into.bytes + 256 * length l.rest ≤ length l.fn.into.bytes + 256 * length l.numbers;
  room : length l.fn.into.bytes + l.fn.into.spare ≤ length l.into.bytes + l.into.spare;
  array : l.array + length l.rest ≡ length l.numbers;
  printable : AllByRecursion IsPrintablePv (own_pvs l.pool.0 (slice_index l.sectors) l.array l.rest) → AllByRecursion IsPrintablePv (own_pvs l.pool.0 (slice_index l.sectors) 0 l.numbers);
  range : AllByRecursion PvInRange (own_pvs l.pool.0 (slice_index l.sectors) l.array l.rest) → AllByRecursion PvInRange (own_pvs l.pool.0 (slice_index l.sectors) 0 l.numbers);
}

abbrev pub decreases-loop-number : goal.decreases-loop-number
decreases-loop-number l = length l.rest
