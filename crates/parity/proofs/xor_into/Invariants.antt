use Rattle.std.proofs.Common.{◌*◌}
use Rattle.parity.proofs.Kernel.{XoredBelow}
use Rattle.parity.proofs.xor_into.Given as goal

abbrev pub invariant-loop-block : goal.invariant-loop-block
invariant-loop-block l = XoredBelow (l.block * 64) l.fn.a l.b l.a
