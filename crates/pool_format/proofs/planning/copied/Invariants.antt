use Rattle.std.proofs.Common.{◌≡◌, take}
use Rattle.pool_format.proofs.planning.copied.Given as goal

-- those up to here
abbrev pub invariant-loop-index : goal.invariant-loop-index
invariant-loop-index l = l.copy.items ≡ take l.index l.places.items
