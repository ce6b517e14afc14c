use Rattle.std.proofs.Common.{◌≡◌, filter, length, ◌≤◌}
use Rattle.std.specs.List.{range_with_len}
use Rattle.log_laws.specs.Phases.{went}
use Rattle.commit_log.proofs.lost.Lost.list.Given as goal

abbrev pub invariant-loop-place : goal.invariant-loop-place
invariant-loop-place l = record {
  listed : l.list.items ≡ filter (went l.self.places) (range_with_len 0 l.place);
  few : length l.list.items ≤ l.place;
}
