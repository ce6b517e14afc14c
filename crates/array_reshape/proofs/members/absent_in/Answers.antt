use Rattle.std.proofs.Common.{◌<◌, subst, sym, ◌∙◌}
use Rattle.md_super.specs.declared.superblock.Super.{Super}
use Rattle.reshape_laws.proofs.RowCall.{absent_one}
use Rattle.array_reshape.proofs.members.absent_in.Goals as goal

pub returns-then-not-counts_in : goal.returns-then-not-counts_in
returns-then-not-counts_in c =
    absent_one c.args.array.now c.args.row c.loop-position.position c.rules.ensures c.requires.row c.requires.few
    (subst (λ (t : Super). c.loop-position.position < t.raid_disks) c.truth.ensures c.loop-position-test.true)
    (sym c.counts_in.ensures ∙ c.if-not-counts_in.true)
