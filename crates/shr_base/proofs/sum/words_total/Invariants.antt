use Rattle.std.proofs.Common.{◌≡◌, ◌+◌, ◌%◌, ◌^◌, length, sum}
use Rattle.shr_base.specs.Sum.{words}
use Rattle.shr_base.proofs.sum.words_total.Given as goal

-- the total so far and the words that are left make the whole
abbrev pub invariant-loop-word : goal.invariant-loop-word
invariant-loop-word l = ((l.total + sum (words l.rest)) % 2 ^ 64 ≡ sum (words l.bytes) % 2 ^ 64) × (length l.rest % 2 ≡ 0)

abbrev pub decreases-loop-word : goal.decreases-loop-word
decreases-loop-word l = length l.rest
