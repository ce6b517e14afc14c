use Rattle.std.proofs.Common.{◌≡◌, false, sym, ◌∙◌}
use Rattle.log_laws.specs.Bytes.{targets_in}
use Rattle.log_laws.specs.Phases.{has_target, went}
use Rattle.log_laws.proofs.Rounds.{untargeted, targeted, targeted_then}
use Rattle.commit_log.proofs.writing.sync_targets.Goals.{then-has, else-has}
use Rattle.commit_log.proofs.writing.sync_targets.Goals as goal

pub loop-disk-preserved : goal.loop-disk-preserved
loop-disk-preserved g c =
    let xs = targets_in c.args.record.now.bytes.items c.args.record.now.count in
    let disk = c.loop-disk.disk in
    let invariant = c.loop-disk.invariant in
    let old = went c.args.lost.now.places in
    let before = went c.loop-disk.lost.places in
    let named = sym (c.slices-slices.ensures disk c.loop-disk-test.true) ∙ sym c.has.ensures in
    elim c.if-has.branch [
      | then-has w ↦
          let after = went w.sync_one.new.lost.places in
          let done = w.sync_one.ensures in
          rw (w.rack-is, w.lost-is) (record {
            syncs = targeted_then xs disk old before after invariant.syncs (targeted xs disk before after (named ∙ w.if-has.true) done.syncs);
            runs = g.met.R.Rack.runs_then _ _ _ invariant.runs done.runs;
          })
      | else-has w ↦
          let none : has_target xs disk ≡ false = named ∙ w.if-has.false in
          rw (w.rack-is, w.lost-is) (record {
            syncs = targeted_then xs disk old before before invariant.syncs
                (untargeted (g.R.Rack.seen c.loop-disk.rack) xs disk before invariant.syncs.calls.only.stays.fit none);
            runs = invariant.runs;
          })
    ]
