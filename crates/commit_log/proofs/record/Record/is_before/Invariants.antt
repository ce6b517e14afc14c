use Rattle.std.proofs.Common.{◌≡◌, false}
use Rattle.std.specs.List.{list_any}
use Rattle.rack.specs.Targets.{is_at}
use Rattle.log_laws.specs.Bytes.{target_in, targets_in}
use Rattle.commit_log.proofs.record.Record.is_before.Given as goal

abbrev pub invariant-loop-before : goal.invariant-loop-before
invariant-loop-before l = list_any (is_at (target_in l.self.bytes.items l.at).disk (target_in l.self.bytes.items l.at).sector) (targets_in l.self.bytes.items l.before) ≡ false
