use Rattle.std.proofs.Common.{ℕ, ◌*◌, ◌<◌, Ok}
use Rattle.lvm_label.specs.Label.{IsLabel}
use Rattle.rack.specs.Several.{Several}
use Rattle.lvm_group.specs.Writing.{Puts, first_targets, own_label, targets_to}
use Rattle.lvm_group.proofs.writing.put_firsts.Given as goal

abbrev pub invariant-loop-array : goal.invariant-loop-array
invariant-loop-array g l = record {
  puts : Puts (g.R.Rack.seen l.fn.rack) (g.R.Rack.seen l.rack) (targets_to (first_targets l.pool.0 (g.R.Rack.seen l.fn.rack).sectors l.starts l.text) l.array) {X = Unit {0}} (Ok tt);
  labels : (array : ℕ) → array < l.array → IsLabel (own_label l.pool.0 array ((g.R.Rack.seen l.fn.rack).sectors array));
  several : Several g.R.Rack.once (514 * l.array) l.fn.rack l.rack;
  runs : g.R.Rack.runs l.fn.rack l.rack;
}
