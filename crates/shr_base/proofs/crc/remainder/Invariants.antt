use Rattle.std.proofs.Common.{◌≡◌, length}
use Rattle.shr_base.specs.Crc.{remainder_from}
use Rattle.shr_base.proofs.crc.remainder.Given as goal

-- what is left to go through makes the whole
abbrev pub invariant-loop-chunk : goal.invariant-loop-chunk
invariant-loop-chunk l = remainder_from l.register l.rest ≡ remainder_from l.start l.bytes

abbrev pub decreases-loop-chunk : goal.decreases-loop-chunk
decreases-loop-chunk l = length l.rest
