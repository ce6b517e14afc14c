use Rattle.std.proofs.Common.{◌≡◌, ℕ, fold, length}
use Rattle.lvm_text.specs.Words.{below_64, digits_value, with_digit}
use Rattle.lvm_text.proofs.lexer.value_of.Given as goal

abbrev pub invariant-loop-digit : goal.invariant-loop-digit
invariant-loop-digit l = (n : ℕ) × (l.value ≡ below_64 n) × (fold with_digit n l.rest ≡ digits_value l.digits)

abbrev pub decreases-loop-digit : goal.decreases-loop-digit
decreases-loop-digit l = length l.rest
