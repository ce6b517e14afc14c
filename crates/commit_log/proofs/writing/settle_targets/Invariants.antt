use Rattle.rack.specs.Sequences.{IsPayload}
use Rattle.log_laws.specs.Bytes.{targets_in}
use Rattle.log_laws.specs.Phases.{Puts, IsWanted, IsTargeted, went}
use Rattle.commit_log.proofs.writing.settle_targets.Given as goal

abbrev pub invariant-loop-at : goal.invariant-loop-at
invariant-loop-at g l = record {
  puts : Puts (g.R.Rack.seen l.initial.rack) (g.R.Rack.seen l.rack) (IsTargeted (targets_in l.record.bytes.items l.record.count))
      (IsPayload (targets_in l.record.bytes.items l.at)) (IsWanted (g.R.Rack.seen l.initial.rack) (targets_in l.record.bytes.items l.at))
      (went l.initial.lost.places) (went l.lost.places);
  runs : g.R.Rack.runs l.initial.rack l.rack;
}
