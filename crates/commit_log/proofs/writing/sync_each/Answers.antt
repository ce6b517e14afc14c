use Rattle.std.proofs.Common.{length}
use Rattle.log_laws.specs.Phases.{went}
use Rattle.log_laws.proofs.Each.{each_synced}
use Rattle.commit_log.proofs.writing.sync_each.Goals as goal

pub loop-place-preserved : goal.loop-place-preserved
loop-place-preserved g c = record {
  syncs = each_synced c.args.on.now (length c.args.on.now) c.loop-place.place-index
      (went c.args.lost.now.places) (went c.loop-place.lost.places) (went c.sync_one.new.lost.places) c.loop-place-test.true
      c.loop-place.invariant.syncs c.sync_one.ensures.syncs;
  runs = g.met.R.Rack.runs_then _ _ _ c.loop-place.invariant.runs c.sync_one.ensures.runs;
}
