use Rattle.std.proofs.Common.{◌≡◌, take}
use Rattle.shr_base.specs.Crc.{remainder_from}
use Rattle.shr_base.proofs.crc.remainder_by_bytes.Given as goal

abbrev pub invariant-loop-byte : goal.invariant-loop-byte
invariant-loop-byte l = l.register ≡ remainder_from l.start (take l.byte-index l.bytes)
