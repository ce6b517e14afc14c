use Rattle.std.proofs.Common.{◌+◌, ◌-◌, ◌<◌, ◌≤◌, sym, subst, arith}
use Rattle.std.proofs.lemmas.Result.{err_from_is_err_and}
use Rattle.raid_rack.specs.declared.works.Stuck.{Stuck}
use Rattle.pool.specs.Growing.{DoesMany, StopsGrowing}
use Rattle.pool.specs.Moment.{moment_of}
use Rattle.pool.specs.View.{bay_in, view}
use Rattle.pool.proofs.Grows.{keeps_more, keeps_none, keeps_then, many_none, many_then, stops_growing}
use Rattle.pool.proofs.Pool.grow.Goals as goal

pub loop-done-init : goal.loop-done-init
loop-done-init g c =
    let p = c.args.self.now in
    let x = view g.R.Rack.seen g.R.Bay.shelf p in
    record { inside = omega arith; keeps = keeps_none x c.requires; works = many_none x; runs = g.met.R.Rack.runs_same (bay_in p) }

pub try_first-requires-clause-fit : goal.try_first-requires-clause-fit
try_first-requires-clause-fit g c = c.loop-done.invariant.keeps.fit

pub loop-done-preserved : goal.loop-done-preserved
loop-done-preserved g c =
    let seen = g.R.Rack.seen in
    let shelf = g.R.Bay.shelf in
    let p = c.args.self.now in
    let q = c.loop-done.self in
    let r = c.try_first.new.self in
    let before = c.loop-done.invariant in
    let tries = c.in_ok-done.ensures.tries in
    let done = c.loop-done.done in
    let count = c.in_ok-done.field-0 in
    let any = tries.some.0 in
    let few = tries.some.1 in
    let test = c.loop-done-test.true in
    record {
      inside = omega (arith, few, test);
      keeps = keeps_more (done + 1) (done + count) (view seen shelf p) (view seen shelf r) (omega (arith, any))
          (keeps_then done (view seen shelf p) (view seen shelf q) (view seen shelf r) before.keeps c.try_first.ensures.tries.keeps);
      works = many_then done count (view seen shelf p) (view seen shelf q) (view seen shelf r) any before.works tries.done;
      runs = g.met.R.Rack.runs_then (bay_in p) (bay_in q) (bay_in r) before.runs c.try_first.ensures.runs;
    }

pub left-requires-2 : goal.left-requires-2
left-requires-2 g c = c.loop-done.invariant.keeps.fit

pub returns-in_err-done : goal.returns-in_err-done
returns-in_err-done g c =
    let seen = g.R.Rack.seen in
    let shelf = g.R.Bay.shelf in
    let p = c.args.self.now in
    let q = c.loop-done.self in
    let r = c.try_first.new.self in
    let done = c.loop-done.done in
    let before = c.loop-done.invariant in
    let error = err_from_is_err_and c.from_residual.result c.from_residual.ensures.1 in
    let fewer : done < c.args.count = let most = c.min-most.ensures in let test = c.loop-done-test.true in omega (arith, most, test) in
    let asked : done + (c.min-most.result - done) ≤ c.args.count = let most = c.min-most.ensures in let test = c.loop-done-test.true in omega (arith, most, test) in
    let all = keeps_then done (view seen shelf p) (view seen shelf q) (view seen shelf r) before.keeps c.try_first.ensures.tries.keeps in
    record {
      grows = record {
        keeps = keeps_more (done + 1) c.args.count (view seen shelf p) (view seen shelf r) (omega (arith, fewer)) all;
        left = rw error.1 tt;
        done = rw error.1 tt;
        stuck = rw error.1
            (subst (λ (e : Stuck). StopsGrowing c.args.count (view seen shelf p) (view seen shelf r) g.R.Rack.runs e.array) (sym error.2)
            (stops_growing seen shelf g.R.Rack.runs done (c.min-most.result - done) c.args.count p q r _ asked before.keeps before.works c.in_err-done.ensures.tries.stuck));
      };
      runs = g.met.R.Rack.runs_then (bay_in p) (bay_in q) (bay_in r) before.runs c.try_first.ensures.runs;
    }

pub returns : goal.returns
returns g c =
    let seen = g.R.Rack.seen in
    let shelf = g.R.Bay.shelf in
    let p = c.args.self.now in
    let q = c.loop-done.self in
    let done = c.loop-done.done in
    let all = c.loop-done.invariant in
    let left = c.left.ensures in
    let most = c.min-most.ensures in
    let test = c.loop-done-test.false in
    let inside = all.inside in
    record {
      grows = record {
        keeps = keeps_more done c.args.count (view seen shelf p) (view seen shelf q) (omega (arith, most, inside)) all.keeps;
        left = c.left-2.ensures;
        done = subst (λ k. DoesMany k (moment_of (view seen shelf p)) (moment_of (view seen shelf q))) (omega (arith, left, most, test, inside)) all.works;
        stuck = tt;
      };
      runs = all.runs;
    }
