use Rattle.std.proofs.Common.{◌≡◌, true, false, sym, ◌∙◌, arith}
use Rattle.log_laws.specs.View.{names}
use Rattle.commit_log.proofs.Story.{logs_named}
use Rattle.commit_log.proofs.Scanning.{scan_over, scan_found}
use Rattle.commit_log.proofs.scan.Scan.of.Goals.{then-contains, else-contains}
use Rattle.commit_log.proofs.scan.Scan.of.Goals as goal

pub loop-place-preserved : goal.loop-place-preserved
loop-place-preserved g c =
    let a = g.R.Rack.seen c.args.rack.now in
    let k = c.loop-place.place-counter in
    let on = c.args.on.now in
    elim c.if-contains.branch [
      | then-contains w ↦
          let here : names on k ≡ true = sym c.contains.ensures.value ∙ w.if-contains.true in
          let log = logs_named a.sectors on k c.requires.logs here in
          rw w.rack-is (rw w.scan-is (record {
            scan = scan_found on k c.loop-place.scan w.read.new.self here (omega (arith, c.requires.disks, log.0)) (omega (arith, log.1)) c.loop-place.invariant.scan
                w.read.ensures.reads w.read.ensures.found;
            runs = g.met.R.Rack.runs_then _ _ _ c.loop-place.invariant.runs w.read.ensures.runs;
          }))
      | else-contains w ↦
          let other : names on k ≡ false = sym c.contains.ensures.value ∙ w.if-contains.false in
          rw w.rack-is (rw w.scan-is (record {
            scan = scan_over on k c.loop-place.scan other c.loop-place.invariant.scan;
            runs = c.loop-place.invariant.runs;
          }))
    ]
