use Rattle.std.proofs.Common.{ap, ◌≡◌, ◌≤◌, ◌*◌, ◌<◌, ◌∙◌, ℕ, sym, subst, refl, arith}
use Rattle.rack.proofs.Reading.{only_reads_join, only_reads_start}
use Rattle.log_laws.specs.View.{LogView}
use Rattle.md_super.specs.declared.superblock.Super.{Super}
use Rattle.array_model.proofs.Reading.{slices_then}
use Rattle.array_model.proofs.Views.{notes_none, notes_then}
use Rattle.raid_map.specs.LeftSymmetric.{IsMemberCount, parity_at}
use Rattle.array_image.specs.Supers.{is_reshaping}
use Rattle.reshape_laws.specs.Ahead.{next_row}
use Rattle.reshape_laws.specs.Rows.{AddsData, OfOne, data_count}
use Rattle.reshape_laws.proofs.Pieces.{pieces_by, pieces_length}
use Rattle.reshape_laws.proofs.RowCall.{blank_zeros, member_count, rows_same}
use Rattle.reshape_laws.proofs.RowPieces.{count_few, data_next, data_none, sector_pieces}
use Rattle.array_reshape.proofs.new_rows.stage_sector.Goals as goal

pub loop-position-init : goal.loop-position-init
loop-position-init g c = (
  only_reads_start (g.R.Rack.seen c.args.rack.now) c.requires.slices.fit,
  notes_none c.args.array.now _ _,
  g.met.R.Rack.runs_same c.args.rack.now,
  data_none c.args.array.now (g.R.Rack.seen c.args.rack.now) c.args.sector c.args.absent c.zero_sector-sum.result c.args.log.now.added (c.zero_sector-sum.ensures ∙ blank_zeros),
  refl,
)

pub stage_piece-requires : goal.stage_piece-requires
stage_piece-requires g c =
    let v = c.args.array.now in
    let u = c.loop-position.array in
    let notes = c.loop-position.invariant.1 in
    let room = c.requires.room in
    let low = c.loop-position-test.true in
    let few = count_few v.truth.raid_disks c.args.sector c.loop-position.position in
    let disks : c.truth.result.now.raid_disks ≡ c.args.array.now.truth.raid_disks = ap (λ (t : Super). t.raid_disks) c.truth.ensures in
    let long = pieces_length v _ _ (data_count v.truth.raid_disks c.args.sector c.loop-position.position) c.args.log.now.added c.loop-position.log.added c.loop-position.invariant.3.adds in
    record {
      slices = slices_then v u (g.R.Rack.seen c.args.rack.now) (g.R.Rack.seen c.loop-position.rack) c.loop-position.invariant.0.stays notes c.requires.slices;
      reshaping = ap is_reshaping notes.same.truth ∙ c.requires.reshaping;
      synced = rows_same v u notes.same c.requires.synced;
      position = subst (λ (t : Super). c.loop-position.position < t.raid_disks) (sym notes.same.truth) (omega (arith, low, disks));
      sector = subst (λ (t : Super). c.args.sector < t.size) (sym notes.same.truth) c.requires.sector;
      row = subst (λ (t : Super). next_row (record v { truth = t }) * 128 ≤ c.args.sector) (sym notes.same.truth) c.requires.row;
      room = omega (arith, room, long, low, few, disks);
    }

pub returns-then-not-stage_piece-clause-reads : goal.returns-then-not-stage_piece-clause-reads
returns-then-not-stage_piece-clause-reads g c = only_reads_join c.loop-position.invariant.0 c.stage_piece.ensures.reads

pub returns-then-not-stage_piece-clause-notes : goal.returns-then-not-stage_piece-clause-notes
returns-then-not-stage_piece-clause-notes g c =
    notes_then c.args.array.now c.loop-position.array c.stage_piece.new.array (g.R.Rack.seen c.args.rack.now) (g.R.Rack.seen c.loop-position.rack) (g.R.Rack.seen c.stage_piece.new.rack)
    c.loop-position.invariant.0.stays c.stage_piece.ensures.reads.stays c.loop-position.invariant.1 c.stage_piece.ensures.notes

pub returns-then-not-stage_piece-clause-log : goal.returns-then-not-stage_piece-clause-log
returns-then-not-stage_piece-clause-log g c =
    c.stage_piece.ensures.log ∙ ap (λ (l : LogView). record l { added = c.stage_piece.new.log.added }) c.loop-position.invariant.4

pub loop-position-preserved : goal.loop-position-preserved
loop-position-preserved g c =
    let v = c.args.array.now in
    let u = c.loop-position.array in
    let a = g.R.Rack.seen c.args.rack.now in
    let b = g.R.Rack.seen c.loop-position.rack in
    let reads = c.loop-position.invariant.0 in
    let notes = c.loop-position.invariant.1 in (
      only_reads_join reads c.stage_piece.ensures.reads,
      notes_then v u c.stage_piece.new.array a b (g.R.Rack.seen c.stage_piece.new.rack) reads.stays c.stage_piece.ensures.reads.stays notes c.stage_piece.ensures.notes,
      g.met.R.Rack.runs_then _ _ _ c.loop-position.invariant.2 c.stage_piece.ensures.runs,
      data_next v u a b c.args.sector c.loop-position.position c.args.absent c.loop-position.sum c.stage_piece.new.sum c.args.log.now.added c.loop-position.log.added c.stage_piece.new.log.added
          c.rules.ensures c.requires.slices.lasting reads notes c.loop-position.invariant.3 (c.stage_piece.ensures.added c.if-not-stage_piece.false),
      c.stage_piece.ensures.log ∙ ap (λ (l : LogView). record l { added = c.stage_piece.new.log.added }) c.loop-position.invariant.4,
    )

pub returns-clause-added : goal.returns-clause-added
returns-clause-added g c = λ is.
    let v = c.args.array.now in
    let u = c.loop-position.array in
    let a = g.R.Rack.seen c.args.rack.now in
    let notes = c.loop-position.invariant.1 in
    let end = c.loop-position-test.false in
    let last = c.loop-position.auto.position-end in
    let disks : c.truth.result.now.raid_disks ≡ c.args.array.now.truth.raid_disks = ap (λ (t : Super). t.raid_disks) c.truth.ensures in
    let at : c.loop-position.position ≡ c.args.array.now.truth.raid_disks = omega (arith, end, last, disks) in
    sector_pieces v a c.args.sector c.parity_on.result c.args.absent c.loop-position.sum c.args.log.now.added c.loop-position.log.added c.stage_if.new.log.added c.rules.ensures
    (c.parity_on.ensures.parity ∙ ap (λ (n : ℕ). parity_at n c.args.sector) disks) (subst (λ (n : ℕ). c.parity_on.result < n) disks c.parity_on.ensures.member)
    (subst (λ n. AddsData v a c.args.sector n c.args.absent c.loop-position.sum c.args.log.now.added c.loop-position.log.added) at c.loop-position.invariant.3)
    (pieces_by v u (OfOne c.args.sector c.parity_on.result c.args.absent) (OfOne c.args.sector c.parity_on.result c.args.absent) (λ t j w. w ≡ c.loop-position.sum) (λ t j w. w ≡ c.loop-position.sum)
    1 1 c.loop-position.log.added c.stage_if.new.log.added notes.same (omega arith) (λ t j is. is) (λ t j is. is) (λ t j w is same. same) c.stage_if.ensures.added)

pub returns-clause-log : goal.returns-clause-log
returns-clause-log g c =
    c.stage_if.ensures.log ∙ ap (λ (l : LogView). record l { added = c.stage_if.new.log.added }) c.loop-position.invariant.4

pub parity_on-requires-clause-members : goal.parity_on-requires-clause-members
parity_on-requires-clause-members g c = subst (λ (t : Super). IsMemberCount t.raid_disks) (sym c.truth.ensures) (member_count c.args.array.now c.rules.ensures)
