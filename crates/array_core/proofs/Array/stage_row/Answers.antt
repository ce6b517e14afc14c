use Rattle.std.proofs.Common.{◌∙◌, refl, sym, subst, ap, inr}
use Rattle.rack.proofs.Reading.{only_reads_start}
use Rattle.log_laws.specs.View.{LogView}
use Rattle.array_model.proofs.Views.{notes_none}
use Rattle.array_core.specs.Stands.{layout_of}
use Rattle.array_core.specs.Logging.{StagedRow, staged_copies}
use Rattle.array_core.proofs.RowTargets.{row_staged}
use Rattle.array_core.proofs.Array.stage_row.Goals as goal

pub returns-in-Mirror-clause-staged : goal.returns-in-Mirror-clause-staged
returns-in-Mirror-clause-staged g c =
    let v = c.args.self.now in
    let a = g.R.Rack.seen c.args.rack.now in
    record {
      reads = only_reads_start a c.requires.slices.fit;
      notes = notes_none v a a;
      either = inr (
        refl,
        subst (StagedRow c.args.all v v a c.args.x c.args.from.now) (sym (ap (λ (l : LogView). l.added) c.stage_copies.ensures))
            (staged_copies c.in-Mirror.members (sym c.stand-at.ensures.spread ∙ ap layout_of c.in-Mirror.is)),
      );
    }

pub returns-in-Parity-clause-staged : goal.returns-in-Parity-clause-staged
returns-in-Parity-clause-staged g c =
    let layout = sym c.stand-at.ensures.spread ∙ ap layout_of c.in-Parity.is in
    row_staged c.args.all c.args.self.now c.stage_change.new.self (g.R.Rack.seen c.args.rack.now) (g.R.Rack.seen c.stage_change.new.rack) c.args.x c.in-Parity.members
    c.stand-at.result c.side_stand-side.result c.args.from.now c.stage_change.result c.stage_change.new.log.added
    (record {
      layout = layout;
      spread = c.stand-at.ensures.spread ∙ layout;
      position = c.stand-at.ensures.position;
      sector = c.stand-at.ensures.sector;
      stand = c.stand-at.ensures.stand;
      side_spread = c.side_stand-side.ensures.spread;
      side_position = c.side_stand-side.ensures.position;
      side_sector = c.side_stand-side.ensures.sector ∙ sym c.stand-at.ensures.sector;
      side_stand = c.side_stand-side.ensures.stand;
    })
    c.stage_change.ensures.staged
