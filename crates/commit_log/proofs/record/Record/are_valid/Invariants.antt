use Rattle.std.proofs.Common.{◌≡◌, true}
use Rattle.std.specs.List.{list_all}
use Rattle.array_image.specs.Record.{is_target}
use Rattle.log_laws.specs.Bytes.{targets_in}
use Rattle.commit_log.proofs.record.Record.are_valid.Given as goal

abbrev pub invariant-loop-at : goal.invariant-loop-at
invariant-loop-at l = list_all is_target (targets_in l.self.bytes.items l.at) ≡ true
