use Rattle.std.proofs.Common.{◌≡◌, length}
use Rattle.std.specs.Prelude.{bytes_eq}
use Rattle.std.specs.List.{list_any}
use Rattle.lvm_text.specs.declared.group.Pv.{Pv}
use Rattle.lvm_group.proofs.profile.is_named.Given as goal

abbrev pub invariant-loop-pv : goal.invariant-loop-pv
invariant-loop-pv l = list_any (λ (other : Pv). bytes_eq other.name l.name) l.rest ≡ list_any (λ (other : Pv). bytes_eq other.name l.name) l.pvs

abbrev pub decreases-loop-pv : goal.decreases-loop-pv
decreases-loop-pv l = length l.rest
