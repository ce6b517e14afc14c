use Rattle.commit_log.specs.Scans.{gate_seen, count_seen, Drops}
use Rattle.commit_log.proofs.scan.Scan.load.Given as goal

abbrev pub invariant-loop-at : goal.invariant-loop-at
invariant-loop-at g l = record {
  drops : Drops (g.R.Rack.seen l.initial.rack) (g.R.Rack.seen l.rack) l.initial.self l.self;
  runs : g.R.Rack.runs l.initial.rack l.rack;
}

abbrev pub decreases-loop-at : goal.decreases-loop-at
decreases-loop-at g l = count_seen (gate_seen l.self.gates) 16
