use Rattle.std.proofs.Common.{length}
use Rattle.log_laws.specs.Phases.{SyncsAll, IsLogOf, went}
use Rattle.commit_log.proofs.writing.sync_each.Given as goal

abbrev pub invariant-loop-place : goal.invariant-loop-place
invariant-loop-place g l = record {
  syncs : SyncsAll (g.R.Rack.seen l.initial.rack) (g.R.Rack.seen l.rack) (IsLogOf l.on (length l.on)) (IsLogOf l.on l.place-index)
      (went l.initial.lost.places) (went l.lost.places);
  runs : g.R.Rack.runs l.initial.rack l.rack;
}
