use Rattle.std.proofs.Common.{◌≡◌, ◌-◌, find}
use Rattle.std.specs.List.{range_with_len}
use Rattle.log_laws.specs.Phases.{went}
use Rattle.commit_log.proofs.lost.Lost.first.Given as goal

abbrev pub invariant-loop-place : goal.invariant-loop-place
invariant-loop-place l = l.first ≡ find (went l.self.places) (range_with_len l.place (16 - l.place))
