use Rattle.std.proofs.Common.{length}
use Rattle.log_laws.specs.Phases.{went}
use Rattle.log_laws.proofs.Each.{each_then}
use Rattle.commit_log.proofs.writing.write_each.Goals as goal

pub loop-place-preserved : goal.loop-place-preserved
loop-place-preserved g c = record {
  puts = each_then c.args.on.now (length c.args.on.now) c.loop-place.place-index c.args.sector c.args.from.now
      (went c.args.lost.now.places) (went c.loop-place.lost.places) (went c.write_one.new.lost.places) c.loop-place-test.true
      c.loop-place.invariant.puts c.write_one.ensures.puts;
  runs = g.met.R.Rack.runs_then _ _ _ c.loop-place.invariant.runs c.write_one.ensures.runs;
}
