use Rattle.std.proofs.Common.{ap, ◌≡◌, ◌<◌, ◌≤◌, ◌+◌, ◌-◌, ◌*◌, ℕ, length, ◌∙◌, sym, subst, refl, arith}
use Rattle.rack.proofs.Reading.{only_reads_join, only_reads_start}
use Rattle.log_laws.specs.View.{LogView, most_sectors}
use Rattle.md_super.specs.declared.superblock.Super.{Super}
use Rattle.array_image.specs.Supers.{is_reshaping}
use Rattle.array_model.proofs.Reading.{slices_then}
use Rattle.array_model.proofs.Views.{notes_none, notes_then}
use Rattle.reshape_laws.specs.Ahead.{next_row}
use Rattle.reshape_laws.specs.Rows.{AddsPieces, IsNewBytes, OfSectors}
use Rattle.reshape_laws.proofs.Pieces.{pieces_length}
use Rattle.reshape_laws.proofs.RowCall.{rows_same}
use Rattle.reshape_laws.proofs.RowPieces.{no_sectors, sectors_next, sectors_room}
use Rattle.array_reshape.proofs.new_rows.stage_sectors.Goals as goal

pub loop-sector-init : goal.loop-sector-init
loop-sector-init g c = (
  only_reads_start (g.R.Rack.seen c.args.rack.now) c.requires.slices.fit,
  notes_none c.args.array.now _ _,
  g.met.R.Rack.runs_same c.args.rack.now,
  no_sectors c.args.array.now (g.R.Rack.seen c.args.rack.now) (c.args.first * 128) c.args.absent c.args.log.now.added,
  refl,
)

pub stage_sector-requires : goal.stage_sector-requires
stage_sector-requires g c =
    let v = c.args.array.now in
    let u = c.loop-sector.array in
    let notes = c.loop-sector.invariant.1 in
    let room = c.requires.room in
    let low = c.loop-sector-test.true in
    let least = c.loop-sector.auto.sector in
    let inside = c.requires.rows.1 in
    let whole = c.rules.ensures.whole_rows in
    let at : c.args.first ≡ next_row c.args.array.now = c.requires.rows.0 in
    let more = sectors_room (c.loop-sector.sector - c.args.first * 128) (c.args.rows * 128) v.truth.raid_disks (omega (arith, low, least)) in
    let long = pieces_length v _ _ ((c.loop-sector.sector - c.args.first * 128) * v.truth.raid_disks) c.args.log.now.added c.loop-sector.log.added c.loop-sector.invariant.3 in
    record {
      slices = slices_then v u (g.R.Rack.seen c.args.rack.now) (g.R.Rack.seen c.loop-sector.rack) c.loop-sector.invariant.0.stays notes c.requires.slices;
      reshaping = ap is_reshaping notes.same.truth ∙ c.requires.reshaping;
      synced = rows_same v u notes.same c.requires.synced;
      sector = subst (λ (t : Super). c.loop-sector.sector < t.size) (sym notes.same.truth) (omega (arith, low, inside, whole));
      row = subst (λ (t : Super). next_row (record v { truth = t }) * 128 ≤ c.loop-sector.sector) (sym notes.same.truth) (subst (λ r. r * 128 ≤ c.loop-sector.sector) at (omega (arith, least)));
      room = subst (λ (t : Super). length c.loop-sector.log.added + t.raid_disks ≤ most_sectors) (sym notes.same.truth) (omega (arith, room, long, more));
    }

pub returns-then-not-stage_sector-clause-reads : goal.returns-then-not-stage_sector-clause-reads
returns-then-not-stage_sector-clause-reads g c = only_reads_join c.loop-sector.invariant.0 c.stage_sector.ensures.reads

pub returns-then-not-stage_sector-clause-notes : goal.returns-then-not-stage_sector-clause-notes
returns-then-not-stage_sector-clause-notes g c =
    notes_then c.args.array.now c.loop-sector.array c.stage_sector.new.array (g.R.Rack.seen c.args.rack.now) (g.R.Rack.seen c.loop-sector.rack) (g.R.Rack.seen c.stage_sector.new.rack)
    c.loop-sector.invariant.0.stays c.stage_sector.ensures.reads.stays c.loop-sector.invariant.1 c.stage_sector.ensures.notes

pub returns-then-not-stage_sector-clause-log : goal.returns-then-not-stage_sector-clause-log
returns-then-not-stage_sector-clause-log g c =
    c.stage_sector.ensures.log ∙ ap (λ (l : LogView). record l { added = c.stage_sector.new.log.added }) c.loop-sector.invariant.4

pub loop-sector-preserved : goal.loop-sector-preserved
loop-sector-preserved g c =
    let v = c.args.array.now in
    let u = c.loop-sector.array in
    let a = g.R.Rack.seen c.args.rack.now in
    let b = g.R.Rack.seen c.loop-sector.rack in
    let reads = c.loop-sector.invariant.0 in
    let notes = c.loop-sector.invariant.1 in
    let least = c.loop-sector.auto.sector in (
      only_reads_join reads c.stage_sector.ensures.reads,
      notes_then v u c.stage_sector.new.array a b (g.R.Rack.seen c.stage_sector.new.rack) reads.stays c.stage_sector.ensures.reads.stays notes c.stage_sector.ensures.notes,
      g.met.R.Rack.runs_then _ _ _ c.loop-sector.invariant.2 c.stage_sector.ensures.runs,
      sectors_next v u a b (c.args.first * 128) c.loop-sector.sector c.args.absent c.args.log.now.added c.loop-sector.log.added c.stage_sector.new.log.added
          c.rules.ensures c.requires.slices.lasting reads notes (omega (arith, least)) c.loop-sector.invariant.3 (c.stage_sector.ensures.added c.if-not-stage_sector.false),
      c.stage_sector.ensures.log ∙ ap (λ (l : LogView). record l { added = c.stage_sector.new.log.added }) c.loop-sector.invariant.4,
    )

pub returns-clause-added : goal.returns-clause-added
returns-clause-added g c = λ is.
    let v = c.args.array.now in
    let end = c.loop-sector-test.false in
    let last = c.loop-sector.auto.sector-end in
    let at : c.loop-sector.sector - c.args.first * 128 ≡ c.args.rows * 128 = omega (arith, end, last) in
    subst (λ (n : ℕ). AddsPieces v (OfSectors v.truth.raid_disks (c.args.first * 128) n c.args.absent) (IsNewBytes v (g.R.Rack.seen c.args.rack.now)) (n * v.truth.raid_disks) c.args.log.now.added c.loop-sector.log.added) at c.loop-sector.invariant.3
