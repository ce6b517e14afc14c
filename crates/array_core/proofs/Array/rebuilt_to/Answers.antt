use Rattle.std.proofs.Common.{ap, ◌∙◌}
use Rattle.array_core.specs.Model.{is_truth}
use Rattle.array_core.proofs.Array.rebuilt_to.Goals as goal

pub returns-clause-truth : goal.returns-clause-truth
returns-clause-truth c = ap is_truth c.copied.ensures ∙ c.self.invariant.truth
