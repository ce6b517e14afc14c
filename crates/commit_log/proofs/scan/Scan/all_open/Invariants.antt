use Rattle.std.proofs.Common.{◌≡◌, ◌-◌, map}
use Rattle.std.specs.List.{list_all, range_with_len}
use Rattle.array_image.specs.Record.{is_open_if_of}
use Rattle.commit_log.specs.Scans.{at_seen}
use Rattle.commit_log.proofs.scan.Scan.all_open.Given as goal

abbrev pub invariant-loop-place : goal.invariant-loop-place
invariant-loop-place l = l.all ≡ list_all (is_open_if_of l.number) (map (at_seen l.self.gates) (range_with_len l.place (16 - l.place)))
