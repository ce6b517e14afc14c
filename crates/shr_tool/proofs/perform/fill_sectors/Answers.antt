-- Each sector is written, up to the first that is refused.
use Rattle.std.proofs.Common.{Err, ◌∙◌, ap, arith}
use Rattle.pool.specs.View.{bay_in, view}
use Rattle.pool.proofs.Serving.{sound_in}
use Rattle.shr_tool.proofs.Meanings.{size_small}
use Rattle.shr_tool.proofs.Filled.{filled_start, filled_step, filled_all, filled_spent}
use Rattle.shr_tool.proofs.perform.fill_sectors.Goals as goal

pub overflow_add-at-end : goal.overflow_add-at-end
overflow_add-at-end g c =
    let small = size_small g.R.Rack.seen g.R.Bay.shelf c.args.pool.now c.requires.fit in
    let inside = c.requires.inside in
    omega arith

pub loop-at-init : goal.loop-at-init
loop-at-init g c =
    let pool = c.args.pool.now in
    record {
      from = omega arith;
      until = omega arith;
      runs = g.met.R.Rack.runs_same (bay_in pool);
      filled = filled_start (view g.R.Rack.seen g.R.Bay.shelf pool) c.args.sector c.args.bytes.now c.requires.fit
          (sound_in g.R.Rack.seen g.R.Bay.shelf g.met.R.Rack.sound pool c.requires.fit);
    }

pub loop-at-preserved : goal.loop-at-preserved
loop-at-preserved g c =
    let before = c.loop-at.invariant in
    record {
      from = let from = before.from in omega arith;
      until = let until = before.until in omega arith;
      runs = g.met.R.Rack.runs_then _ _ _ before.runs c.write.ensures.runs;
      filled = filled_step _ _ _ _ _ _ _ c.in-Ok.is before.from before.filled c.write.ensures.written;
    }

pub returns-clause-fills : goal.returns-clause-fills
returns-clause-fills g c =
    let before = c.loop-at.invariant in
    let until = before.until in
    filled_all _ _ _ c.loop-at.at _ _ (omega arith) before.filled

pub returns-in-Err-Spent-clause-fills : goal.returns-in-Err-Spent-clause-fills
returns-in-Err-Spent-clause-fills g c =
    let before = c.loop-at.invariant in
    filled_spent _ _ _ c.args.sector c.loop-at.at c.args.count _ _ (c.in-Err-Spent.is ∙ ap Err c.in-Err-Spent.field-0-is) before.from
    c.loop-at-test.true before.filled c.write.ensures.written

pub returns-in-Err-Spent-clause-runs : goal.returns-in-Err-Spent-clause-runs
returns-in-Err-Spent-clause-runs g c = g.met.R.Rack.runs_then _ _ _ c.loop-at.invariant.runs c.write.ensures.runs
