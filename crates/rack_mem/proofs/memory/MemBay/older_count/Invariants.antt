use Rattle.std.proofs.Common.{◌≡◌, ◌+◌, ◌≤◌, length}
use Rattle.rack_mem.specs.Memory.{values_of}
use Rattle.rack_mem.specs.MemBay.{memory}
use Rattle.rack_mem.proofs.memory.MemBay.older_count.Given as goal

abbrev pub invariant-loop-at : goal.invariant-loop-at
invariant-loop-at l =
    (length (values_of (memory l.self) l.disk l.sector l.moment).older ≡ l.count + length (values_of (memory l.self) l.disk l.sector l.at).older)
    × (l.count + l.at ≤ l.moment)

abbrev pub decreases-loop-at : goal.decreases-loop-at
decreases-loop-at l = l.at
