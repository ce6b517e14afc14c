-- Each sector is read and put, up to the first that is refused.
use Rattle.std.proofs.Common.{Err, ◌<◌, ◌∙◌, ap, sym, subst, arith}
use Rattle.std.proofs.lemmas.List.{append-nil}
use Rattle.raid_rack.specs.RaidRack.{slices_in}
use Rattle.pool.specs.View.{arrays_of, bay_in}
use Rattle.shr_tool.proofs.History.{ran_none}
use Rattle.shr_tool.proofs.Exported.{prefix_more, put_more, ran_read, ran_spent, value_read}
use Rattle.pool.proofs.Keeping.{passes_same, passes_then}
use Rattle.shr_tool.proofs.exporting.put_sectors.Goals as goal

pub returns-in-Err-Spent-clause-passes : goal.returns-in-Err-Spent-clause-passes
returns-in-Err-Spent-clause-passes g c = passes_then _ _ _ c.loop-sector.invariant.passes c.read.ensures.read.passes

pub returns-in-Err-Spent-clause-runs : goal.returns-in-Err-Spent-clause-runs
returns-in-Err-Spent-clause-runs g c = g.met.R.Rack.runs_then _ _ _ c.loop-sector.invariant.runs c.read.ensures.runs

pub returns-in-Err-Spent-clause-puts : goal.returns-in-Err-Spent-clause-puts
returns-in-Err-Spent-clause-puts g c =
    λ sink.
    let before = c.loop-sector.invariant in (
      c.loop-sector.sector,
      subst (λ n. c.loop-sector.sector < n) c.size-size.ensures.size c.loop-sector-test.true,
      ran_spent _ _ _ _ _ _ (c.in-Err-Spent.is ∙ ap Err c.in-Err-Spent.field-0-is) (g.met.R.Bay.unspent (bay_in c.read.new.self), g.met.R.Rack.sound (bay_in c.read.new.self), (slices_in (arrays_of c.read.new.self)).orderly) before.ran c.read.ensures.read,
      before.put sink,
    )

pub returns-in-Err-clause-passes : goal.returns-in-Err-clause-passes
returns-in-Err-clause-passes g c = passes_then _ _ _ c.loop-sector.invariant.passes c.read.ensures.read.passes

pub returns-in-Err-clause-runs : goal.returns-in-Err-clause-runs
returns-in-Err-clause-runs g c = g.met.R.Rack.runs_then _ _ _ c.loop-sector.invariant.runs c.read.ensures.runs

pub returns-in-Err-clause-puts : goal.returns-in-Err-clause-puts
returns-in-Err-clause-puts g c =
    λ sink.
    let before = c.loop-sector.invariant in (
      c.loop-sector.sector,
      subst (λ n. c.loop-sector.sector < n) c.size-size.ensures.size c.loop-sector-test.true,
      ran_read _ _ _ _ _ _ c.in-Ok.is (g.met.R.Bay.unspent (bay_in c.read.new.self), g.met.R.Rack.sound (bay_in c.read.new.self), (slices_in (arrays_of c.read.new.self)).orderly) before.ran c.read.ensures.read,
      λ a holds.
          prefix_more a _ _ _ _ _ (value_read _ _ _ _ _ _ a c.in-Ok.is before.ran c.read.ensures.read holds) (before.put sink a holds)
          (c.in-Err.ensures.prefix (before.told sink)),
    )

pub loop-sector-init : goal.loop-sector-init
loop-sector-init g c = record {
  until = omega arith;
  runs = g.met.R.Rack.runs_same (bay_in c.args.pool.now);
  passes = passes_same _ c.requires;
  ran = ran_none _ c.requires (g.met.R.Bay.unspent (bay_in c.args.pool.now), g.met.R.Rack.sound (bay_in c.args.pool.now), (slices_in (arrays_of c.args.pool.now)).orderly);
  sink = omega arith;
  told = λ sink. sink;
  put = λ sink a holds. sym (append-nil (g.O.Sink.taken c.args.out.now));
}

pub loop-sector-preserved : goal.loop-sector-preserved
loop-sector-preserved g c =
    let before = c.loop-sector.invariant in
    record {
      until = let inside = c.loop-sector-test.true in omega arith;
      runs = g.met.R.Rack.runs_then _ _ _ before.runs c.read.ensures.runs;
      passes = passes_then _ _ _ before.passes c.read.ensures.read.passes;
      ran = ran_read _ _ _ _ _ _ c.in-Ok.is (g.met.R.Bay.unspent (bay_in c.read.new.self), g.met.R.Rack.sound (bay_in c.read.new.self), (slices_in (arrays_of c.read.new.self)).orderly) before.ran c.read.ensures.read;
      sink = let old = before.sink in let now = c.put.ensures.faults in omega arith;
      told = λ sink. c.put.ensures.told (before.told sink);
      put =
          λ sink a holds.
          put_more a _ _ _ _ _ (value_read _ _ _ _ _ _ a c.in-Ok.is before.ran c.read.ensures.read holds) (before.put sink a holds)
          (c.in-Ok-put.ensures.put (before.told sink));
    }
