-- A word goes over from what is left to the total.
use Rattle.std.proofs.Common.{◌≡◌, ◌+◌, arith, sum}
use Rattle.byteorder.specs.Endian.{little_number}
use Rattle.shr_base.specs.Sum.{words}
use Rattle.shr_base.proofs.Words.{sum-words}
use Rattle.shr_base.proofs.sum.words_total.Goals as goal

pub loop-word-preserved : goal.loop-word-preserved
loop-word-preserved c =
    let taken = c.in-Some.ensures.cases in
    let front : sum (words c.loop-word.rest.now) ≡ little_number 4 c.in-Some.word.now + sum (words c.in-Some.after.now)
    = sum-words c.in-Some.word.now c.in-Some.after.now c.loop-word.rest.now taken.0 taken.1 taken.2 in
    (omega (arith, front, c.read_u32.ensures, c.from-total.ensures, c.loop-word.invariant.0), omega (arith, taken.2))
