-- Each piece is taken and written, up to the end of the input or of the volume.
use Rattle.std.proofs.Common.{◌≡◌, ◌*◌, ◌<◌, Err, refl, sym, ◌∙◌, ap, subst, arith}
use Rattle.raid_rack.specs.RaidRack.{slices_in}
use Rattle.pool.specs.View.{arrays_of, bay_in}
use Rattle.shr_tool.proofs.History.{ran_none}
use Rattle.shr_tool.proofs.Imported.{ended_before, ended_in, ended_with, failed_behind, failed_in, goes_on, has_taken, spent_at, written_more}
use Rattle.pool.proofs.Keeping.{passes_same, passes_then}
use Rattle.shr_tool.proofs.importing.write_pieces.Goals as goal

pub returns-in-Err-clause-imports : goal.returns-in-Err-clause-imports
returns-in-Err-clause-imports g c =
    λ source.
    let before = c.loop-sector.invariant in
    let stops = c.in-Err.ensures.taken (before.told source) in
    failed_in _ _ _ _ _ _ _ (before.written source)
    (subst (λ n. c.loop-sector.sector < n) c.size-size.ensures.size c.loop-sector-test.true)
    stops.1 stops.2

pub returns-then-count-eq0-clause-imports : goal.returns-then-count-eq0-clause-imports
returns-then-count-eq0-clause-imports g c =
    λ source.
    let before = c.loop-sector.invariant in
    let has = before.written source in
    let took = has_taken _ _ _ _ _ _ _ c.in-Ok.is has.rest_is (c.take_sector.ensures.taken (before.told source)) in
    ended_before _ _ _ _ _ _ _ _ _ has took
    (subst (λ n. c.loop-sector.sector < n) c.size-size.ensures.size c.loop-sector-test.true)
    c.if-count-eq0.true
    refl

pub returns-in-Err-Spent-clause-passes : goal.returns-in-Err-Spent-clause-passes
returns-in-Err-Spent-clause-passes g c = passes_then _ _ _ c.loop-sector.invariant.passes c.write.ensures.written.passes

pub returns-in-Err-Spent-clause-runs : goal.returns-in-Err-Spent-clause-runs
returns-in-Err-Spent-clause-runs g c = g.met.R.Rack.runs_then _ _ _ c.loop-sector.invariant.runs c.write.ensures.runs

pub returns-in-Err-Spent-clause-imports : goal.returns-in-Err-Spent-clause-imports
returns-in-Err-Spent-clause-imports g c =
    λ source.
    let before = c.loop-sector.invariant in
    let has = before.written source in
    let took = has_taken _ _ _ _ _ _ _ c.in-Ok.is has.rest_is (c.take_sector.ensures.taken (before.told source)) in
    spent_at _ _ _ _ _ _ _ _ _ _ (c.in-Err-Spent.is ∙ ap Err c.in-Err-Spent.field-0-is) (g.met.R.Bay.unspent (bay_in c.write.new.self), g.met.R.Rack.sound (bay_in c.write.new.self), (slices_in (arrays_of c.write.new.self)).orderly) has took
    (subst (λ n. c.loop-sector.sector < n) c.size-size.ensures.size c.loop-sector-test.true)
    (let some = c.if-count-eq0.false in omega arith)
    c.write.ensures.written

pub returns-then-count-lt-SECTOR-clause-passes : goal.returns-then-count-lt-SECTOR-clause-passes
returns-then-count-lt-SECTOR-clause-passes g c = passes_then _ _ _ c.loop-sector.invariant.passes c.write.ensures.written.passes

pub returns-then-count-lt-SECTOR-clause-runs : goal.returns-then-count-lt-SECTOR-clause-runs
returns-then-count-lt-SECTOR-clause-runs g c = g.met.R.Rack.runs_then _ _ _ c.loop-sector.invariant.runs c.write.ensures.runs

pub returns-then-count-lt-SECTOR-clause-imports : goal.returns-then-count-lt-SECTOR-clause-imports
returns-then-count-lt-SECTOR-clause-imports g c =
    λ source.
    let before = c.loop-sector.invariant in
    let has = before.written source in
    let took = has_taken _ _ _ _ _ _ _ c.in-Ok.is has.rest_is (c.take_sector.ensures.taken (before.told source)) in
    ended_in _ _ _ _ _ _ _ _ _ _ _ c.in-Ok-write.is (g.met.R.Bay.unspent (bay_in c.write.new.self), g.met.R.Rack.sound (bay_in c.write.new.self), (slices_in (arrays_of c.write.new.self)).orderly) has took
    (subst (λ n. c.loop-sector.sector < n) c.size-size.ensures.size c.loop-sector-test.true)
    (let some = c.if-count-eq0.false in omega arith)
    c.if-count-lt-SECTOR.true
    c.write.ensures.written
    refl

pub loop-sector-init : goal.loop-sector-init
loop-sector-init g c = record {
  until = omega arith;
  long = refl;
  runs = g.met.R.Rack.runs_same (bay_in c.args.pool.now);
  passes = passes_same _ c.requires;
  source = omega arith;
  told = λ source. source;
  written = λ source. record { ran = ran_none _ c.requires (g.met.R.Bay.unspent (bay_in c.args.pool.now), g.met.R.Rack.sound (bay_in c.args.pool.now), (slices_in (arrays_of c.args.pool.now)).orderly); rest_is = refl; some = omega arith };
}

pub loop-sector-preserved : goal.loop-sector-preserved
loop-sector-preserved g c =
    let before = c.loop-sector.invariant in
    record {
      until = let inside = c.loop-sector-test.true in omega arith;
      long = c.take_sector.array_long;
      runs = g.met.R.Rack.runs_then _ _ _ before.runs c.write.ensures.runs;
      passes = passes_then _ _ _ before.passes c.write.ensures.written.passes;
      source = let old = before.source in let now = c.take_sector.ensures.faults in omega arith;
      told = λ source. c.take_sector.ensures.told (before.told source);
      written =
          λ source.
          let has = before.written source in
          let took = has_taken _ _ _ _ _ _ _ c.in-Ok.is has.rest_is (c.take_sector.ensures.taken (before.told source)) in
          written_more _ _ _ _ _ _ _ _ _ _ c.in-Ok-write.is (g.met.R.Bay.unspent (bay_in c.write.new.self), g.met.R.Rack.sound (bay_in c.write.new.self), (slices_in (arrays_of c.write.new.self)).orderly) has took c.if-count-lt-SECTOR.false c.write.ensures.written;
    }

pub returns-in-Ok-eq0-clause-imports : goal.returns-in-Ok-eq0-clause-imports
returns-in-Ok-eq0-clause-imports g c =
    λ source.
    let before = c.loop-sector.invariant in
    let until = before.until in
    let end = c.loop-sector-test.false in
    let same : c.loop-sector.sector ≡ c.size-size.result = omega arith in
    ended_with _ _ _ _ _ _ _ _ _ (before.written source) (same ∙ c.size-size.ensures.size)
    (c.in-Ok-eq0.ensures.taken (before.told source)) c.in-Ok-eq0.field-0-test (ap (λ n. n * 512) (sym same))

pub returns-in-Ok-take-clause-imports : goal.returns-in-Ok-take-clause-imports
returns-in-Ok-take-clause-imports g c =
    λ source.
    let before = c.loop-sector.invariant in
    let until = before.until in
    let end = c.loop-sector-test.false in
    let same : c.loop-sector.sector ≡ c.size-size.result = omega arith in
    goes_on _ _ _ _ _ _ _ _ (before.written source) (same ∙ c.size-size.ensures.size)
    (c.in-Ok-take.ensures.taken (before.told source))
    (let kept = c.take.auto.into in let long = before.long in omega arith)
    (let some = c.in-Ok-take.field-0-test.1 in omega arith)
    c.in-Ok-take.ensures.bounded

pub returns-in-Err-take-clause-imports : goal.returns-in-Err-take-clause-imports
returns-in-Err-take-clause-imports g c =
    λ source.
    let before = c.loop-sector.invariant in
    let until = before.until in
    let end = c.loop-sector-test.false in
    let same : c.loop-sector.sector ≡ c.size-size.result = omega arith in
    failed_behind _ _ _ _ _ _ (before.written source) (same ∙ c.size-size.ensures.size) (c.in-Err-take.ensures.kept (before.told source))
