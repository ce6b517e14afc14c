use Rattle.std.proofs.Common.{◌+◌, ◌≤◌, length}
use Rattle.lvm_text.proofs.Texts.{SoFar}
use Rattle.lvm_text.proofs.reader.words.Given as goal

abbrev pub invariant-loop-byte : goal.invariant-loop-byte
invariant-loop-byte l = (SoFar l.words.items l.place l.rest l.text) × (l.place.lists + length l.rest ≤ length l.text)

abbrev pub decreases-loop-byte : goal.decreases-loop-byte
decreases-loop-byte l = length l.rest
