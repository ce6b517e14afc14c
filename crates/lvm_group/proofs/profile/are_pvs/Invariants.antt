use Rattle.std.proofs.Common.{◌≡◌, length}
use Rattle.std.specs.Prelude.{slice_index}
use Rattle.std.specs.List.{list_all}
use Rattle.lvm_group.specs.Group.{is_pv}
use Rattle.lvm_group.proofs.profile.are_pvs.Given as goal

abbrev pub invariant-loop-pv : goal.invariant-loop-pv
invariant-loop-pv l =
    list_all (is_pv l.pool.0 l.extent (slice_index l.sectors) (length l.sectors)) l.rest ≡ list_all (is_pv l.pool.0 l.extent (slice_index l.sectors) (length l.sectors)) l.pvs

abbrev pub decreases-loop-pv : goal.decreases-loop-pv
decreases-loop-pv l = length l.rest
