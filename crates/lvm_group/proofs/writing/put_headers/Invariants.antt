use Rattle.std.proofs.Common.{ℕ, ◌<◌, ◌*◌, Ok}
use Rattle.lvm_label.specs.Header.{IsLocation}
use Rattle.rack.specs.Several.{Several}
use Rattle.lvm_group.specs.Writing.{Puts, header_target, own_location, start_at, targets_to}
use Rattle.lvm_group.proofs.writing.put_headers.Given as goal

abbrev pub invariant-loop-array : goal.invariant-loop-array
invariant-loop-array g l = record {
  puts : Puts (g.R.Rack.seen l.fn.rack) (g.R.Rack.seen l.rack) (targets_to (header_target l.starts l.text) l.array) {X = Unit {0}} (Ok tt);
  locations : (array : ℕ) → array < l.array → IsLocation (own_location (512 * (start_at l.starts array).sector) l.text);
  several : Several g.R.Rack.once l.array l.fn.rack l.rack;
  runs : g.R.Rack.runs l.fn.rack l.rack;
}
