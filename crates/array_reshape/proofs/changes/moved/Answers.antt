use Rattle.std.proofs.Common.{◌≡◌, ℕ, ◌+◌, ◌-◌, ◌*◌, true, sym, subst, ◌∙◌}
use Rattle.md_super.specs.declared.superblock.Super.{Super}
use Rattle.array_core.specs.declared.Change.{Change}
use Rattle.array_core.specs.Model.{is_truth}
use Rattle.reshape_laws.specs.Ahead.{ahead_by}
use Rattle.reshape_laws.proofs.Truths.{ahead_truth}
use Rattle.array_reshape.proofs.changes.moved.Goals as goal

pub returns-clause-truth : goal.returns-clause-truth
returns-clause-truth c =
    let v = c.args.array.now in
    subst (λ (d : Change). is_truth d.truth ≡ true) (sym c.of_truth.ensures)
    (subst (λ (n : ℕ). is_truth (record c.copied-truth.result { events = c.raised.result; reshape_position = c.copied-truth.result.reshape_position + 128 * c.args.rows * (n - 1) }) ≡ true) (sym c.from.ensures)
    (subst (λ (u : Super). is_truth (ahead_by (record v { truth = u }) c.args.rows c.raised.result).truth ≡ true) (sym (c.copied-truth.ensures ∙ c.truth.ensures))
    (ahead_truth v c.args.rows c.raised.result c.rules.ensures c.requires.reshaping c.requires.left c.truth_rules.ensures)))
