use Rattle.std.proofs.Common.{◌≡◌, true, sym, subst, ◌∙◌}
use Rattle.md_super.specs.declared.superblock.Super.{Super}
use Rattle.array_core.specs.declared.Change.{Change}
use Rattle.array_core.specs.Model.{is_truth}
use Rattle.reshape_laws.specs.Ahead.{taken_over}
use Rattle.reshape_laws.proofs.Taking.{stands_still}
use Rattle.reshape_laws.proofs.Truths.{taken_truth}
use Rattle.array_reshape.proofs.changes.taken_over.Goals as goal

pub returns-clause-truth : goal.returns-clause-truth
returns-clause-truth c =
    let v = c.args.array.now in
    subst (λ (d : Change). is_truth d.truth ≡ true) (sym c.of_truth.ensures)
    (subst (λ (u : Super). is_truth (taken_over (record v { truth = u }) c.raised.result).truth ≡ true) (sym (c.copied-truth.ensures ∙ c.truth.ensures))
    (taken_truth v c.raised.result c.rules.ensures (stands_still v c.rules.ensures c.requires) c.truth_rules.ensures))
