use Rattle.std.proofs.Common.{ℕ, ◌-◌, ◌*◌, ◌/◌, ◌<◌, subst, sym}
use Rattle.md_super.specs.declared.superblock.Super.{Super}
use Rattle.array_model.specs.View.{rows_of}
use Rattle.reshape_laws.proofs.Arrays.{row_left}
use Rattle.array_reshape.proofs.members.next_row.Goals as goal

pub returns-clause-inside : goal.returns-clause-inside
returns-clause-inside c =
    let v = c.args.array.now in
    subst (λ (n : ℕ). c.truth-truth.result.now.reshape_position / (128 * (n - 1)) < rows_of v) (sym c.from.ensures)
    (subst (λ (t : Super). t.reshape_position / (128 * (t.raid_disks - 1)) < rows_of v) (sym c.truth-truth.ensures)
    (row_left v c.rules.ensures c.requires.reshaping c.requires.left))
