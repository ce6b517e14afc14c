use Rattle.std.proofs.Common.{◌≡◌, ◌≤◌, length}
use Rattle.array_core.specs.Logging.{due_copies}
use Rattle.array_core.proofs.Array.stage_copies.Given as goal

abbrev pub invariant-loop-position : goal.invariant-loop-position
invariant-loop-position l =
    (l.log ≡ record l.fn.log { added = due_copies l.all l.self l.sector l.from l.position }) × (length l.log.added ≤ l.position)
