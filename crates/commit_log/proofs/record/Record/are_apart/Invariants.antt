use Rattle.std.proofs.Common.{◌≡◌, true}
use Rattle.array_image.specs.Record.{are_apart}
use Rattle.log_laws.specs.Bytes.{targets_in}
use Rattle.commit_log.proofs.record.Record.are_apart.Given as goal

abbrev pub invariant-loop-at : goal.invariant-loop-at
invariant-loop-at l = are_apart (targets_in l.self.bytes.items l.at) ≡ true
