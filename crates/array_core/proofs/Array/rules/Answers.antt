use Rattle.std.proofs.Common.{subst}
use Rattle.array_model.specs.View.{IsArray}
use Rattle.array_core.proofs.Rules.{rules_of}
use Rattle.array_core.proofs.Array.rules.Goals as goal

pub returns : goal.returns
returns c = subst IsArray c.self.view_is (rules_of c.self.inside c.self.invariant)
