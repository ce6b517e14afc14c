-- The slices of the first targets.
use Rattle.std.proofs.Common.{◌≡◌, ◌<◌, ℕ}
use Rattle.log_laws.specs.Bytes.{targets_in}
use Rattle.log_laws.specs.Phases.{has_target}
use Rattle.commit_log.specs.Slices.{is_in}
use Rattle.commit_log.proofs.record.Record.slices.Given as goal

abbrev pub invariant-loop-at : goal.invariant-loop-at
invariant-loop-at l = (d : ℕ) → d < 272 → is_in l.slices.flags d ≡ has_target (targets_in l.self.bytes.items l.at) d
