use Rattle.std.proofs.Common.{◌+◌, ◌≤◌}
use Rattle.rack_mem.specs.Table.{stored, room_left}
use Rattle.rack_mem.specs.Picked.{TakesSoFar, KeepsOthers}
use Rattle.rack_mem.specs.MemBay.{memory}
use Rattle.rack_mem.proofs.memory.MemBay.picked_base.Given as goal

abbrev pub invariant-loop-number : goal.invariant-loop-number
invariant-loop-number l =
    (l.moment ≤ room_left l.image + l.number)
    × TakesSoFar (memory l.self) l.moment l.pick l.number (stored l.image)
    × KeepsOthers (memory l.self) (stored l.image)
