use Rattle.std.proofs.Common.{◌≡◌, ◌+◌, ◌-◌}
use Rattle.lvm_text.specs.Group.{segments_at}
use Rattle.lvm_text.proofs.Faults.{with_front}
use Rattle.lvm_text.proofs.walk.segments.Given as goal

abbrev pub invariant-loop-before : goal.invariant-loop-before
invariant-loop-before l = with_front l.segments (segments_at (l.count - l.before) (l.before + 1) l.words) ≡ segments_at l.count 1 l.words
