use Rattle.std.proofs.Common.{◌≡◌, ◌-◌}
use Rattle.std.specs.Prelude.{bytes_eq}
use Rattle.std.specs.List.{find, range_with_len}
use Rattle.lvm_group.specs.Ids.{array_named, pv_name}
use Rattle.lvm_group.proofs.naming.array_named.Given as goal

abbrev pub invariant-loop-array : goal.invariant-loop-array
invariant-loop-array l = find (λ array. bytes_eq (pv_name array) l.name) (range_with_len l.array (16 - l.array)) ≡ array_named l.name
