use Rattle.std.proofs.Common.{◌≡◌, drop}
use Rattle.lvm_label.specs.Label.{label_in}
use Rattle.lvm_label.proofs.label.decode_label.Given as goal

abbrev pub invariant-loop-number : goal.invariant-loop-number
invariant-loop-number l = label_in l.number (drop l.number l.sectors) ≡ label_in 0 l.sectors
