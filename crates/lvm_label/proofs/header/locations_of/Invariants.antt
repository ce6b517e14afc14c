use Rattle.std.proofs.Common.{◌≡◌, ◌-◌, ◌+◌, ◌*◌, ◌≤◌, length}
use Rattle.lvm_label.specs.Header.{locations_at}
use Rattle.lvm_label.proofs.Locations.{with_front}
use Rattle.lvm_label.proofs.header.locations_of.Given as goal

abbrev pub invariant-loop-rest : goal.invariant-loop-rest
invariant-loop-rest l =
    (with_front l.locations.items (locations_at (4 - length l.locations.items) l.rest) ≡ locations_at 4 l.bytes)
    × (length l.locations.items ≤ 4) × (length l.rest + 24 * length l.locations.items ≡ 472)

abbrev pub decreases-loop-rest : goal.decreases-loop-rest
decreases-loop-rest l = length l.rest
