use Rattle.std.proofs.Common.{length}
use Rattle.log_laws.specs.Phases.{Puts, IsLogOf, IsOnEach, went}
use Rattle.commit_log.proofs.writing.write_each.Given as goal

abbrev pub invariant-loop-place : goal.invariant-loop-place
invariant-loop-place g l = record {
  puts : Puts (g.R.Rack.seen l.initial.rack) (g.R.Rack.seen l.rack) (IsLogOf l.on (length l.on))
      (IsOnEach l.on l.place-index l.sector l.from) (IsOnEach l.on l.place-index l.sector l.from)
      (went l.initial.lost.places) (went l.lost.places);
  runs : g.R.Rack.runs l.initial.rack l.rack;
}
