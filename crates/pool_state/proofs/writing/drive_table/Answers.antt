-- One drive more stands in the table.
use Rattle.std.proofs.Common.{ℕ, List, ◌*◌, ap, ◌∙◌}
use Rattle.shr_base.specs.Blocks.{put_at}
use Rattle.pool_state.proofs.DriveTable.{table-more, HaveIds-more, no_drive}
use Rattle.pool_state.proofs.writing.drive_table.Goals as goal

pub loop-place-preserved : goal.loop-place-preserved
loop-place-preserved c =
    let drives = c.args.drives.now in
    let place = c.loop-place.place in
    let kept = c.loop-place.invariant in
    let below = c.loop-place-test.true in (
      c.put_bytes.ensures.written
          ∙ ap (λ (xs : List ℕ). put_at (28 * place) 28 xs c.loop-place.table) c.bytes_of.ensures.value
          ∙ table-more drives place no_drive c.loop-place.table below c.requires kept.0 kept.1 c.bytes_of.ensures.id,
      HaveIds-more drives place no_drive below kept.1 c.bytes_of.ensures.id,
    )
