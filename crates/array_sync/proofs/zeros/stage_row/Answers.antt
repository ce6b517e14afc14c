use Rattle.std.proofs.Common.{ap, ◌≡◌, ◌*◌, ◌∙◌, ℕ, refl, subst, arith}
use Rattle.md_super.specs.declared.superblock.Super.{Super}
use Rattle.log_laws.specs.View.{LogView}
use Rattle.sync_laws.specs.Rows.{AddsCopies, AreZeros, OfCounting}
use Rattle.sync_laws.proofs.Copying.{added_length, no_copies}
use Rattle.sync_laws.proofs.Zeroed.{zeros_more}
use Rattle.array_sync.proofs.zeros.stage_row.Goals as goal

pub loop-position-init : goal.loop-position-init
loop-position-init c = (no_copies c.args.array.now _ _ (0 * 128) c.args.log.now.added (λ t j is. let low = is.2 in omega (arith, low)), refl)

pub stage_if_counts-requires-clause-room : goal.stage_if_counts-requires-clause-room
stage_if_counts-requires-clause-room c =
    let room = c.requires.room in
    let low = c.loop-position-test.true in
    let same : c.truth.result.now.raid_disks ≡ c.args.array.now.truth.raid_disks = ap (λ (t : Super). t.raid_disks) c.truth.ensures in
    let long = added_length c.args.array.now _ _ (c.loop-position.position * 128) c.args.log.now.added c.loop-position.log.added c.loop-position.invariant.0 in
    omega (arith, room, low, long, same)

pub loop-position-preserved : goal.loop-position-preserved
loop-position-preserved c = (
  zeros_more c.args.array.now c.args.row c.loop-position.position c.args.log.now.added c.loop-position.log.added c.stage_if_counts.new.log.added
      c.rules.ensures c.loop-position.invariant.0 c.stage_if_counts.ensures.added,
  c.stage_if_counts.ensures.log ∙ ap (λ (l : LogView). record l { added = c.stage_if_counts.new.log.added }) c.loop-position.invariant.1,
)

pub returns-clause-added : goal.returns-clause-added
returns-clause-added c =
    let end = c.loop-position-test.false in
    let last = c.loop-position.auto.position-end in
    let same : c.truth.result.now.raid_disks ≡ c.args.array.now.truth.raid_disks = ap (λ (t : Super). t.raid_disks) c.truth.ensures in
    let at : c.loop-position.position ≡ c.args.array.now.truth.raid_disks = omega (arith, end, last, same) in
    subst (λ (k : ℕ). AddsCopies c.args.array.now (OfCounting c.args.array.now (c.args.row * 128) 128 k) AreZeros (k * 128) c.args.log.now.added c.loop-position.log.added) at c.loop-position.invariant.0
