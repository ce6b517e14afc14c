use Rattle.std.proofs.Common.{◌≡◌, ◌≤◌, length}
use Rattle.rack_mem.specs.Memory.{values_of}
use Rattle.rack_mem.specs.Picked.{from_last}
use Rattle.rack_mem.specs.MemBay.{memory}
use Rattle.rack_mem.proofs.memory.MemBay.value_back.Given as goal

abbrev pub invariant-loop-at : goal.invariant-loop-at
invariant-loop-at l =
    (l.at ≤ l.moment) × (l.back ≤ length (values_of (memory l.self) l.disk l.sector l.at).older)
    × (from_last (values_of (memory l.self) l.disk l.sector l.moment) l.fn.back ≡ from_last (values_of (memory l.self) l.disk l.sector l.at) l.back)

abbrev pub decreases-loop-at : goal.decreases-loop-at
decreases-loop-at l = l.at
