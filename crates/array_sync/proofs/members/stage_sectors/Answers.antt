use Rattle.std.proofs.Common.{ap, ◌≡◌, ◌+◌, ◌-◌, ◌*◌, ℕ, ◌∙◌, subst, refl, le-ltb, arith}
use Rattle.rack.proofs.Reading.{only_reads_start, only_reads_join}
use Rattle.log_laws.specs.View.{LogView}
use Rattle.md_super.specs.declared.superblock.Super.{Super}
use Rattle.array_model.specs.View.{member_on}
use Rattle.array_model.proofs.Reading.{slices_then}
use Rattle.array_model.proofs.Views.{notes_none, notes_then}
use Rattle.sync_laws.specs.Rows.{AddsCopies, IsGiven, OfMember}
use Rattle.sync_laws.proofs.Copying.{added_length, no_copies}
use Rattle.sync_laws.proofs.Others.{stays_lacking}
use Rattle.sync_laws.proofs.Restoring.{member_next, spent_at_last}
use Rattle.sync_laws.proofs.Summing.{sector_then}
use Rattle.array_sync.proofs.members.stage_sectors.Goals as goal

pub loop-sector-init : goal.loop-sector-init
loop-sector-init g c = (
  only_reads_start (g.R.Rack.seen c.args.rack.now) c.requires.slices.fit,
  notes_none c.args.array.now _ _,
  g.met.R.Rack.runs_same c.args.rack.now,
  no_copies c.args.array.now _ _ (c.args.row * 128 - c.args.row * 128) c.args.log.now.added (λ t j is. let least = is.0 in let most = is.1 in omega (arith, least, most)),
  refl,
)

pub stage_sector-requires : goal.stage_sector-requires
stage_sector-requires g c =
    let v = c.args.array.now in
    let u = c.loop-sector.array in
    let notes = c.loop-sector.invariant.1 in
    let low = c.loop-sector-test.true in
    let least = c.loop-sector.auto.sector in
    let room = c.requires.room in
    let position = c.requires.position in
    let lacking = c.requires.lacking in
    let disks = ap (λ (t : Super). t.raid_disks) notes.same.truth in
    let long = added_length v _ _ (c.loop-sector.sector - c.args.row * 128) c.args.log.now.added c.loop-sector.log.added c.loop-sector.invariant.3 in
    record {
      slices = slices_then v u (g.R.Rack.seen c.args.rack.now) (g.R.Rack.seen c.loop-sector.rack) c.loop-sector.invariant.0.stays notes c.requires.slices;
      sector = sector_then v u c.loop-sector.sector notes.same (let row = c.requires.row in let whole = c.rules.ensures.whole_rows in omega (arith, low, row, whole));
      position = omega (arith, position, disks);
      lacking = stays_lacking v u notes.lost c.args.position c.loop-sector.sector notes.same.truth notes.loses (le-ltb c.loop-sector.sector (member_on v c.args.position).reach (omega (arith, lacking, least)));
      room = omega (arith, room, long, low, least);
    }

pub returns-then-not-stage_sector-clause-reads : goal.returns-then-not-stage_sector-clause-reads
returns-then-not-stage_sector-clause-reads g c = only_reads_join c.loop-sector.invariant.0 c.stage_sector.ensures.reads

pub returns-then-not-stage_sector-clause-notes : goal.returns-then-not-stage_sector-clause-notes
returns-then-not-stage_sector-clause-notes g c =
    notes_then c.args.array.now c.loop-sector.array c.stage_sector.new.array (g.R.Rack.seen c.args.rack.now) (g.R.Rack.seen c.loop-sector.rack) (g.R.Rack.seen c.stage_sector.new.rack)
    c.loop-sector.invariant.0.stays c.stage_sector.ensures.reads.stays c.loop-sector.invariant.1 c.stage_sector.ensures.notes

pub returns-then-not-stage_sector-clause-lost : goal.returns-then-not-stage_sector-clause-lost
returns-then-not-stage_sector-clause-lost g c = λ is.
    let low = c.loop-sector-test.true in
    let some = c.requires.some in
    spent_at_last c.stage_sector.new.array (c.args.row + (c.args.rows - 1)) c.loop-sector.sector (omega (arith, low, some)) (c.stage_sector.ensures.lost c.if-not-stage_sector.true)

pub returns-then-not-stage_sector-clause-log : goal.returns-then-not-stage_sector-clause-log
returns-then-not-stage_sector-clause-log g c =
    c.stage_sector.ensures.log ∙ ap (λ (l : LogView). record l { added = c.stage_sector.new.log.added }) c.loop-sector.invariant.4

pub loop-sector-preserved : goal.loop-sector-preserved
loop-sector-preserved g c =
    let v = c.args.array.now in
    let u = c.loop-sector.array in
    let a = g.R.Rack.seen c.args.rack.now in
    let b = g.R.Rack.seen c.loop-sector.rack in
    let reads = c.loop-sector.invariant.0 in
    let notes = c.loop-sector.invariant.1 in
    let least = c.loop-sector.auto.sector in
    let lacking = c.requires.lacking in (
      only_reads_join reads c.stage_sector.ensures.reads,
      notes_then v u c.stage_sector.new.array a b (g.R.Rack.seen c.stage_sector.new.rack) reads.stays c.stage_sector.ensures.reads.stays notes c.stage_sector.ensures.notes,
      g.met.R.Rack.runs_then _ _ _ c.loop-sector.invariant.2 c.stage_sector.ensures.runs,
      member_next v u c.stage_sector.new.array a b (g.R.Rack.seen c.stage_sector.new.rack) c.args.position (c.args.row * 128) c.loop-sector.sector c.args.log.now.added c.loop-sector.log.added c.stage_sector.new.log.added
          c.rules.ensures c.requires.slices.lasting reads notes c.stage_sector.ensures.notes c.requires.position
          (le-ltb c.loop-sector.sector (member_on v c.args.position).reach (omega (arith, lacking, least))) (omega (arith, least))
          (c.stage_sector.ensures.counts c.if-not-stage_sector.false) c.loop-sector.invariant.3 (c.stage_sector.ensures.added c.if-not-stage_sector.false),
      c.stage_sector.ensures.log ∙ ap (λ (l : LogView). record l { added = c.stage_sector.new.log.added }) c.loop-sector.invariant.4,
    )

pub returns-clause-added : goal.returns-clause-added
returns-clause-added g c = λ is.
    let v = c.args.array.now in
    let end = c.loop-sector-test.false in
    let last = c.loop-sector.auto.sector-end in
    let at : c.loop-sector.sector - c.args.row * 128 ≡ 128 * c.args.rows = omega (arith, end, last) in
    subst (λ (n : ℕ). AddsCopies v (OfMember c.args.position (c.args.row * 128) n) (IsGiven v (g.R.Rack.seen c.args.rack.now) c.args.position) n c.args.log.now.added c.loop-sector.log.added) at c.loop-sector.invariant.3
