use Rattle.std.proofs.Common.{◌≡◌, Option, Some, is_some, sym, ap, ◌∙◌}
use Rattle.array_image.specs.Places.{log_slice}
use Rattle.array_image.specs.Record.{Gate}
use Rattle.commit_log.specs.Scans.{at_is, gate_is, gate_seen}
use Rattle.commit_log.proofs.Scanning.{pending_has, count_less, drops_had, drops_then}
use Rattle.commit_log.proofs.scan.Scan.load.Goals as goal

pub load-requires-clause-slice : goal.load-requires-clause-slice
load-requires-clause-slice g c =
    let p = c.in-Some.at.place in
    let has : gate_seen c.loop-at.self.gates p ≡ Some (gate_is c.in-Some.at.gate) = pending_has c.loop-at.self.gates (at_is c.in-Some.at) (sym c.in-Some.ensures.gate) in
    c.loop-at.invariant.drops.reads.stays.sectors (log_slice p)
    ∙ c.requires.logs p (ap (λ (o : Option Gate). is_some o) (drops_had c.args.self.now c.loop-at.self p (gate_is c.in-Some.at.gate) c.loop-at.invariant.drops has))

pub loop-at-smaller : goal.loop-at-smaller
loop-at-smaller g c =
    let p = c.in-Some.at.place in
    count_less (gate_seen c.loop-at.self.gates) (gate_seen c.lose.new.self.gates) 16 p (gate_is c.in-Some.at.gate) c.in-Some.ensures.place
    (pending_has c.loop-at.self.gates (at_is c.in-Some.at) (sym c.in-Some.ensures.gate)) c.lose.ensures.none c.lose.ensures.others

pub loop-at-preserved : goal.loop-at-preserved
loop-at-preserved g c = record {
  drops = drops_then c.args.self.now c.loop-at.self c.lose.new.self c.in-Some.at.place (gate_is c.in-Some.at.gate) c.loop-at.invariant.drops c.load.ensures.reads
      (pending_has c.loop-at.self.gates (at_is c.in-Some.at) (sym c.in-Some.ensures.gate)) c.in-Err.ensures.gone
      c.lose.ensures.none c.lose.ensures.others c.lose.ensures.damaged c.lose.ensures.lost;
  runs = g.met.R.Rack.runs_then _ _ _ c.loop-at.invariant.runs c.load.ensures.runs;
}
