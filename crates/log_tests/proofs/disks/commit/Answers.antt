use Rattle.array_model.proofs.Looking.{look_payload}
use Rattle.log_tests.proofs.disks.commit.Goals as goal

pub commit-requires-clause-had : goal.commit-requires-clause-had
commit-requires-clause-had g c d s v is = c.requires.ready.had d s v (look_payload c.args.log.now.added d s v is)
