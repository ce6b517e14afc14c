use Rattle.std.proofs.Common.{◌<◌, List, ◌∙◌, arith}
use Rattle.std.proofs.lemmas.List.{length-set}
use Rattle.std.proofs.lemmas.Option.{slice_get_within}
use Rattle.rack.proofs.Reading.{only_reads_join}
use Rattle.pool_scan.specs.declared.Known.{Known}
use Rattle.pool_scan.specs.Scanning.{IsKnown}
use Rattle.pool_scan.proofs.Sights.{each_set, known_until, known_since}
use Rattle.pool_scan.proofs.Chosen.{scan_says}
use Rattle.pool_scan.proofs.Scan.read.Goals as goal

pub loop-disk-preserved : goal.loop-disk-preserved
loop-disk-preserved g c =
    let x = g.R.Rack.seen c.args.rack.now in
    let z = g.R.Rack.seen c.know.new.rack in
    let before : List Known = c.loop-disk.self.disks.items in
    let count = c.loop-disk.invariant.count in
    let end = c.disks-disk-end.ensures in
    let inside : c.loop-disk.disk < x.disks = omega (arith, end, c.loop-disk-test.true) in
    record {
      only = only_reads_join c.loop-disk.invariant.only c.know.ensures.only;
      count = length-set before c.loop-disk.disk c.know.result ∙ count;
      each = each_set (λ e v. IsKnown x z e v) before c.loop-disk.disk c.know.result (omega (arith, inside, count, c.requires.room))
          (λ e v low at. known_until x (g.R.Rack.seen c.loop-disk.rack) z e v c.know.ensures.only.stays (c.loop-disk.invariant.each e v low at))
          (known_since x (g.R.Rack.seen c.loop-disk.rack) z c.loop-disk.disk c.know.result c.loop-disk.invariant.only inside c.know.ensures.sees c.know.ensures.gone c.know.ensures.valid);
      runs = g.met.R.Rack.runs_then _ _ _ c.loop-disk.invariant.runs c.know.ensures.runs;
    }

pub returns-clause-scanned : goal.returns-clause-scanned
returns-clause-scanned g c =
    let end = c.disks-disk-end.ensures in
    let count = c.loop-disk.invariant.count in
    record {
      count = count ∙ c.requires.room;
      each = λ d s is.
          c.loop-disk.invariant.each d s
          (let within = slice_get_within c.loop-disk.self.disks.items d s is in omega (arith, within, count, c.requires.room, end, c.loop-disk-test.false)) is;
    }

pub returns-clause-identities : goal.returns-clause-identities
returns-clause-identities g c = λ told.
    scan_says (g.R.Rack.seen c.args.rack.now) (g.R.Rack.seen c.loop-disk.rack) c.loop-disk.self.disks.items (returns-clause-scanned g c) told
