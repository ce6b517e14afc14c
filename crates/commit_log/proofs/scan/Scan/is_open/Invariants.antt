use Rattle.std.proofs.Common.{◌≡◌, ◌-◌, map}
use Rattle.std.specs.List.{list_any, range_with_len}
use Rattle.commit_log.specs.Scans.{at_seen, is_open_gate}
use Rattle.commit_log.proofs.scan.Scan.is_open.Given as goal

abbrev pub invariant-loop-place : goal.invariant-loop-place
invariant-loop-place l = l.open ≡ list_any is_open_gate (map (at_seen l.self.gates) (range_with_len l.place (16 - l.place)))
