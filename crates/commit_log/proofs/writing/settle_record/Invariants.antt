use Rattle.std.proofs.Common.{length}
use Rattle.log_laws.specs.Phases.{Puts, IsLogOf, IsOfRecord, went}
use Rattle.commit_log.proofs.writing.settle_record.Given as goal

abbrev pub invariant-loop-at : goal.invariant-loop-at
invariant-loop-at g l = record {
  puts : Puts (g.R.Rack.seen l.initial.rack) (g.R.Rack.seen l.rack) (IsLogOf l.on (length l.on))
      (IsOfRecord l.on l.first l.record.bytes.items l.at) (IsOfRecord l.on l.first l.record.bytes.items l.at)
      (went l.initial.lost.places) (went l.lost.places);
  runs : g.R.Rack.runs l.initial.rack l.rack;
}
