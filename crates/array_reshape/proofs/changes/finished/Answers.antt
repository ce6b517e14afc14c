use Rattle.std.proofs.Common.{◌≡◌, true, sym, ap, subst, ◌∙◌}
use Rattle.array_core.specs.declared.Change.{Change}
use Rattle.array_core.specs.Model.{is_truth}
use Rattle.reshape_laws.proofs.Truths.{finished_truth}
use Rattle.array_reshape.proofs.changes.finished.Goals as goal

pub returns-clause-truth : goal.returns-clause-truth
returns-clause-truth c =
    subst (λ (d : Change). is_truth d.truth ≡ true) (sym c.of_truth.ensures)
    (finished_truth (record c.args.array.now { truth = c.copied-truth.result }) c.raised.result (ap is_truth (c.copied-truth.ensures ∙ c.truth.ensures) ∙ c.truth_rules.ensures))
