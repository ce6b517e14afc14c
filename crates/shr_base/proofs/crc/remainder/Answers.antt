-- Eight bytes go through the register first.
use Rattle.std.proofs.Common.{sym, ◌∙◌}
use Rattle.shr_base.proofs.Registers.{remainder_from-chunk}
use Rattle.shr_base.proofs.crc.remainder.Goals as goal

pub loop-chunk-preserved : goal.loop-chunk-preserved
loop-chunk-preserved c =
    rw (c.after_chunk-register.ensures, c.in-Some.ensures.cases.1)
    (sym (remainder_from-chunk c.loop-chunk.register 8 c.in-Some.chunk.now c.loop-chunk.rest.now c.in-Some.ensures.cases.0))
    ∙ c.loop-chunk.invariant
