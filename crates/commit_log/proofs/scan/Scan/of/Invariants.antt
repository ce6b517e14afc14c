use Rattle.commit_log.specs.Scans.{IsScan}
use Rattle.commit_log.proofs.scan.Scan.of.Given as goal

abbrev pub invariant-loop-place : goal.invariant-loop-place
invariant-loop-place g l = record {
  scan : IsScan l.on l.place-counter (g.R.Rack.seen l.initial.rack) (g.R.Rack.seen l.rack) l.scan;
  runs : g.R.Rack.runs l.initial.rack l.rack;
}
