use Rattle.std.proofs.Common.{◌≡◌, ◌+◌, length}
use Rattle.std.specs.List.{prefix_len}
use Rattle.lvm_text.specs.Words.{is_digit}
use Rattle.lvm_text.proofs.lexer.digits_length.Given as goal

abbrev pub invariant-loop-byte : goal.invariant-loop-byte
invariant-loop-byte l = (l.count + prefix_len is_digit l.rest ≡ prefix_len is_digit l.bytes) × (l.count + length l.rest ≡ length l.bytes)

abbrev pub decreases-loop-byte : goal.decreases-loop-byte
decreases-loop-byte l = length l.rest
