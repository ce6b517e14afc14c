use Rattle.std.proofs.Common.{◌≡◌, ◌≤◌, false, length}
use Rattle.lvm_text.specs.Words.{past_blanks}
use Rattle.lvm_text.proofs.lexer.past_blanks_of.Given as goal

abbrev pub invariant-loop-byte : goal.invariant-loop-byte
invariant-loop-byte l = (past_blanks l.comment l.rest ≡ past_blanks false l.bytes) × (length l.rest ≤ length l.bytes)

abbrev pub decreases-loop-byte : goal.decreases-loop-byte
decreases-loop-byte l = length l.rest
