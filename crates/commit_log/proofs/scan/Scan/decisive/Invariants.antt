use Rattle.std.proofs.Common.{◌≡◌, ◌-◌, ◌<◌, map, option_map, IfSome}
use Rattle.std.specs.List.{range_with_len}
use Rattle.array_image.specs.Foremost.{foremost}
use Rattle.commit_log.specs.Scans.{at_is, at_seen}
use Rattle.commit_log.specs.Scans.{number_of}
use Rattle.commit_log.proofs.scan.Scan.decisive.Given as goal

abbrev pub invariant-loop-place : goal.invariant-loop-place
invariant-loop-place l = record {
  front : option_map at_is l.decisive ≡ foremost number_of (map (at_seen l.self.gates) (range_with_len l.place (16 - l.place)));
  place : IfSome l.decisive (λ a. a.place < 16);
}
