use Rattle.std.proofs.Common.{ap, ◌≡◌, ◌-◌, ◌*◌, ◌∙◌, ℕ, refl, subst, arith}
use Rattle.log_laws.specs.View.{LogView}
use Rattle.sync_laws.specs.Rows.{AddsCopies, AreZeros, OfCounting}
use Rattle.sync_laws.proofs.Copying.{added_length, no_copies}
use Rattle.sync_laws.proofs.Zeroed.{row_more, zeros_row}
use Rattle.array_sync.proofs.zeros.stage_zeros.Goals as goal

pub loop-row-init : goal.loop-row-init
loop-row-init c = (
  no_copies c.args.array.now _ _ _ c.args.log.now.added (λ t j is. let least = is.0 in let most = is.1 in omega (arith, least, most)),
  refl,
)

pub stage_row-requires-clause-room : goal.stage_row-requires-clause-room
stage_row-requires-clause-room c =
    let n = c.args.array.now.truth.raid_disks * 128 in
    let room = c.requires.room in
    let low = c.loop-row-test.true in
    let least = c.loop-row.auto.row in
    let long = added_length c.args.array.now _ _ (n * (c.loop-row.row - c.args.first)) c.args.log.now.added c.loop-row.log.added c.loop-row.invariant.0 in
    let more = row_more n (c.loop-row.row - c.args.first) c.args.rows (omega (arith, low, least)) in
    omega (arith, room, long, more)

pub loop-row-preserved : goal.loop-row-preserved
loop-row-preserved c =
    let least = c.loop-row.auto.row in (
      zeros_row c.args.array.now c.args.first c.loop-row.row c.args.array.now.truth.raid_disks c.args.log.now.added c.loop-row.log.added c.stage_row.new.log.added
          c.rules.ensures (omega (arith, least)) c.loop-row.invariant.0 c.stage_row.ensures.added,
      c.stage_row.ensures.log ∙ ap (λ (l : LogView). record l { added = c.stage_row.new.log.added }) c.loop-row.invariant.1,
    )

pub returns-clause-added : goal.returns-clause-added
returns-clause-added c =
    let n = c.args.array.now.truth.raid_disks in
    let end = c.loop-row-test.false in
    let last = c.loop-row.auto.row-end in
    let at : c.loop-row.row - c.args.first ≡ c.args.rows = omega (arith, end, last) in
    subst (λ (k : ℕ). AddsCopies c.args.array.now (OfCounting c.args.array.now (c.args.first * 128) (128 * k) n) AreZeros (n * 128 * k) c.args.log.now.added c.loop-row.log.added) at c.loop-row.invariant.0
