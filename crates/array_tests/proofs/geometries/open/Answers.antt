use Rattle.array_core.proofs.Opened.{all_truths}
use Rattle.array_tests.proofs.geometries.open.Goals as goal

pub open-requires-clause-truth : goal.open-requires-clause-truth
open-requires-clause-truth c = all_truths c.args.found.now c.requires
