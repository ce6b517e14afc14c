use Rattle.std.proofs.Common.{◌≡◌, ◌≤◌, false, length}
use Rattle.lvm_text.specs.Words.{string_at}
use Rattle.lvm_text.proofs.Strings.{with_front}
use Rattle.lvm_text.proofs.lexer.string_of.Given as goal

abbrev pub invariant-loop-byte : goal.invariant-loop-byte
invariant-loop-byte l = (with_front l.text.items (string_at l.escaped l.rest) ≡ string_at false l.bytes) × (length l.rest ≤ length l.bytes)

abbrev pub decreases-loop-byte : goal.decreases-loop-byte
decreases-loop-byte l = length l.rest
