use Rattle.std.proofs.Common.{arith}
use Rattle.rack.proofs.Reading.{only_reads_start, only_reads_join}
use Rattle.array_image.specs.Held.{current_in}
use Rattle.array_model.proofs.Layouts.{row_layout_is}
use Rattle.array_model.proofs.Reading.{slices_then}
use Rattle.array_model.proofs.Views.{notes_none, notes_then}
use Rattle.sync_laws.proofs.Summing.{counts_next, members_then, row_left, sector_then, sum_next}
use Rattle.array_sync.proofs.rows.sum_sources.Goals as goal

pub loop-position-init : goal.loop-position-init
loop-position-init g c = (
  only_reads_start (g.R.Rack.seen c.args.rack.now) c.requires.slices.fit,
  notes_none c.args.array.now _ _,
  g.met.R.Rack.runs_same c.args.rack.now,
  λ j low is. absurd (omega (arith, low)),
  λ opened. c.zero_sector-sum.ensures (current_in (g.R.Rack.seen c.args.rack.now).held),
)

pub add_if-requires : goal.add_if-requires
add_if-requires g c =
    let notes = c.loop-position.invariant.1 in
    record {
      slices = slices_then c.args.array.now c.loop-position.array (g.R.Rack.seen c.args.rack.now) (g.R.Rack.seen c.loop-position.rack) c.loop-position.invariant.0.stays notes c.requires.slices;
      sector = sector_then c.args.array.now c.loop-position.array c.args.sector notes.same c.requires.sector;
      left = row_left c.args.array.now c.loop-position.array c.args.sector notes.same c.requires.left;
      members = members_then c.args.array.now c.loop-position.array c.args.sector c.args.members notes.same c.requires.members;
      position = omega arith;
    }

pub returns-then-not-add_if-clause-reads : goal.returns-then-not-add_if-clause-reads
returns-then-not-add_if-clause-reads g c = only_reads_join c.loop-position.invariant.0 c.add_if.ensures.reads

pub returns-then-not-add_if-clause-notes : goal.returns-then-not-add_if-clause-notes
returns-then-not-add_if-clause-notes g c =
    notes_then c.args.array.now c.loop-position.array c.add_if.new.array (g.R.Rack.seen c.args.rack.now) (g.R.Rack.seen c.loop-position.rack) (g.R.Rack.seen c.add_if.new.rack)
    c.loop-position.invariant.0.stays c.add_if.ensures.reads.stays c.loop-position.invariant.1 c.add_if.ensures.notes

pub loop-position-preserved : goal.loop-position-preserved
loop-position-preserved g c =
    let v = c.args.array.now in
    let u = c.loop-position.array in
    let a = g.R.Rack.seen c.args.rack.now in
    let b = g.R.Rack.seen c.loop-position.rack in
    let reads = c.loop-position.invariant.0 in
    let notes = c.loop-position.invariant.1 in
    let low = c.loop-position-test.true in
    let members = c.requires.members in
    let most = (row_layout_is v c.args.sector c.rules.ensures).most in (
      only_reads_join reads c.add_if.ensures.reads,
      notes_then v u c.add_if.new.array a b (g.R.Rack.seen c.add_if.new.rack) reads.stays c.add_if.ensures.reads.stays notes c.add_if.ensures.notes,
      g.met.R.Rack.runs_then _ _ _ c.loop-position.invariant.2 c.add_if.ensures.runs,
      counts_next v u a b c.args.sector c.loop-position.position notes (c.add_if.ensures.counts c.if-not-add_if.false) c.loop-position.invariant.3,
      sum_next v u a b c.args.sector c.loop-position.position c.loop-position.sum c.add_if.new.sum c.requires.slices.lasting reads notes (omega (arith, low, members, most))
          (c.add_if.ensures.counts c.if-not-add_if.false) c.loop-position.invariant.4 (c.add_if.ensures.sum c.if-not-add_if.false),
    )
