-- The names so far are attached.
use Rattle.std.proofs.Common.{take, map, string_bytes}
use Rattle.shr_tool.specs.Attaching.{AreAttached}
use Rattle.shr_tool.proofs.attaching.attach_all.Given as goal

abbrev pub invariant-loop-name : goal.invariant-loop-name
invariant-loop-name g l =
    AreAttached (g.B.Rack.seen l.fn.bay) (g.B.Rack.seen l.bay) (g.B.Bay.shelf l.fn.bay) (g.B.Bay.shelf l.bay)
    (map string_bytes (take l.name-index l.names))
