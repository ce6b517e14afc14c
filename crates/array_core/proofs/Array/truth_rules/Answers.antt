use Rattle.std.proofs.Common.{◌≡◌, true, subst}
use Rattle.array_model.specs.View.{View}
use Rattle.array_core.specs.Model.{is_truth}
use Rattle.array_core.proofs.Array.truth_rules.Goals as goal

pub returns : goal.returns
returns c = subst (λ (v : View). is_truth v.truth ≡ true) c.self.view_is c.self.invariant.truth
