use Rattle.std.proofs.Common.{arith}
use Rattle.log_laws.proofs.Targets.{length_targets}
use Rattle.commit_log.proofs.record.Record.add.Goals as goal

pub invariant_of-self-clause-counted : goal.invariant_of-self-clause-counted
invariant_of-self-clause-counted c = omega (arith, length_targets c.args.self.now.bytes.items c.args.self.now.count, c.requires)
