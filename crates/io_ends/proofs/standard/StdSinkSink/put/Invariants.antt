use Rattle.std.proofs.Common.{◌≡◌, ◌≤◌, ◌-◌, ◌++◌, length, take}
use Rattle.io_ends.specs.Known.{IsKnown, bytes_of}
use Rattle.io_ends.proofs.standard.StdSinkSink.put.Given as goal

abbrev pub invariant-loop-done : goal.invariant-loop-done
invariant-loop-done g l =
    (l.done ≤ length l.from) × (l.initial.self.faults ≤ l.self.faults)
    × (IsKnown (g.W.Write.contents l.initial.self.writer) →
    IsKnown (g.W.Write.contents l.self.writer)
    × (bytes_of (g.W.Write.contents l.self.writer) ≡ bytes_of (g.W.Write.contents l.initial.self.writer) ++ take l.done l.from))

abbrev pub decreases-loop-done : goal.decreases-loop-done
decreases-loop-done g l = length l.from - l.done
