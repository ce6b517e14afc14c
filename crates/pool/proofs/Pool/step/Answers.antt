use Rattle.std.proofs.Common.{◌+◌, ◌<◌, drop, sym, ap, subst, ◌∙◌, arith}
use Rattle.std.proofs.lemmas.Result.{err_from_is_err_and}
use Rattle.rack.specs.Joins.{rose_before}
use Rattle.lvm_group.specs.Runs.{Linear}
use Rattle.raid_rack.specs.declared.works.Stuck.{Stuck}
use Rattle.raid_rack.specs.RaidRack.{slices_seen}
use Rattle.pool.specs.View.{arrays_of, book, view}
use Rattle.pool.specs.Works.{IsStuck, KeepsPlan, works_by}
use Rattle.pool.proofs.Booked.{book_seated, raises_fewer}
use Rattle.pool.proofs.Stepping.{does_all, does_none, does_then}
use Rattle.pool.proofs.Working.{worked_call, worked_does, worked_fit, worked_many, worked_none, worked_then}
use Rattle.pool.proofs.Pool.step.Goals as goal

pub loop-done-init : goal.loop-done-init
loop-done-init g c = record {
  inside = omega arith;
  worked = worked_none g.R.Rack.seen g.R.Bay.shelf g.R.Rack.runs g.met.R.Rack.runs_same c.args.self.now c.requires;
  does = does_none (view g.R.Rack.seen g.R.Bay.shelf c.args.self.now);
}

pub advance-requires-clause-fit : goal.advance-requires-clause-fit
advance-requires-clause-fit g c = worked_fit g.R.Rack.seen g.R.Bay.shelf g.R.Rack.runs c.loop-done.done c.args.self.now c.loop-done.self c.requires c.loop-done.invariant.worked

pub loop-done-preserved : goal.loop-done-preserved
loop-done-preserved g c =
    let seen = g.R.Rack.seen in
    let shelf = g.R.Bay.shelf in
    let p = c.args.self.now in
    let q = c.loop-done.self in
    let r = c.advance.new.self in
    let count = c.in_ok-done.field-0 in
    let fit = worked_fit seen shelf g.R.Rack.runs c.loop-done.done p q c.requires c.loop-done.invariant.worked in
    let some = c.in_ok-done.ensures.some in
    let few = some.1 in
    let any = some.0 in
    let test = c.loop-done-test.true in
    record {
      inside = omega (arith, few, test);
      worked = worked_many seen shelf g.R.Rack.runs (c.loop-done.done + 1) (c.loop-done.done + count) p r (omega (arith, any))
          (worked_then seen shelf g.R.Rack.runs g.met.R.Rack.runs_then c.loop-done.done p q r c.loop-done.invariant.worked c.advance.ensures.worked);
      does = does_then (view seen shelf p) (view seen shelf q) (view seen shelf r) c.loop-done.done count
          (worked_call seen shelf g.R.Rack.runs g.met.R.Rack.sound g.met.R.Bay.runs_shelf c.loop-done.done p q c.requires c.loop-done.invariant.worked).passes
          (worked_call seen shelf g.R.Rack.runs g.met.R.Rack.sound g.met.R.Bay.runs_shelf 1 q r fit c.advance.ensures.worked).passes
          c.loop-done.invariant.does c.in_ok-done.ensures.done;
    }

pub left-requires-2 : goal.left-requires-2
left-requires-2 g c = worked_fit g.R.Rack.seen g.R.Bay.shelf g.R.Rack.runs c.loop-done.done c.args.self.now c.loop-done.self c.requires c.loop-done.invariant.worked

pub returns-in_err-done : goal.returns-in_err-done
returns-in_err-done g c =
    let seen = g.R.Rack.seen in
    let shelf = g.R.Bay.shelf in
    let p = c.args.self.now in
    let mid = c.loop-done.self in
    let q = c.advance.new.self in
    let done = c.loop-done.done in
    let all = worked_then seen shelf g.R.Rack.runs g.met.R.Rack.runs_then done p mid q c.loop-done.invariant.worked c.advance.ensures.worked in
    let call = worked_call seen shelf g.R.Rack.runs g.met.R.Rack.sound g.met.R.Bay.runs_shelf (done + 1) p q c.requires all in
    let error = err_from_is_err_and c.from_residual.result c.from_residual.ensures.1 in
    let fit = worked_fit seen shelf g.R.Rack.runs done p mid c.requires c.loop-done.invariant.worked in
    let try = worked_call seen shelf g.R.Rack.runs g.met.R.Rack.sound g.met.R.Bay.runs_shelf 1 mid q fit c.advance.ensures.worked in
    let fewer : done < c.args.count = let most = c.min-most.ensures in let test = c.loop-done-test.true in omega (arith, most, test) in
    record {
      steps = record {
        passes = call.passes;
        raises = raises_fewer (done + 1) c.args.count (view seen shelf p) (view seen shelf q) (omega (arith, fewer)) call.raises;
        marks = call.marks;
        does = worked_does seen shelf g.R.Rack.runs g.met.R.Rack.sound g.met.R.Bay.runs_shelf (done + 1) p q c.requires all;
        members = all.members;
        plan = all.plan;
        left = rw error.1 tt;
        progress = rw error.1 tt;
        stuck = rw error.1
            (record {
              mid = book (view seen shelf mid);
              marks = c.loop-done.invariant.worked.book.book;
              done = c.loop-done.invariant.worked.arrays;
              kept = c.loop-done.invariant.worked.members;
              seated = book_seated (book (view seen shelf mid)) (slices_seen seen (arrays_of mid)) fit.0.running.set fit.0.heeded;
              works = done;
              few = fewer;
              rest = λ quiet alone.
                  ap (λ l. works_by l (book (view seen shelf mid))) c.advance.ensures.worked.linear
                  ∙ (c.loop-done.invariant.does (λ d rose. quiet d (rose_before (try.passes.apart.stays.faults d) rose)) alone).1
                  ∙ sym (ap (λ l. drop done (works_by l (book (view seen shelf p)))) all.linear);
              plan = subst (λ (l : Linear). KeepsPlan l (book (view seen shelf p)) (book (view seen shelf mid))) (sym all.linear) c.loop-done.invariant.worked.plan;
              losses = c.advance.ensures.worked.book.book;
              left = c.advance.ensures.worked.arrays;
              members = all.members;
              stuck = subst (λ (e : Stuck). IsStuck (view seen shelf q).linear (book (view seen shelf mid)) (book (view seen shelf q)) e.array) (sym error.2) c.in_err-done.ensures.stuck;
            });
      };
      runs = all.ran.below;
    }

pub returns : goal.returns
returns g c =
    let seen = g.R.Rack.seen in
    let shelf = g.R.Bay.shelf in
    let p = c.args.self.now in
    let q = c.loop-done.self in
    let done = c.loop-done.done in
    let all = c.loop-done.invariant.worked in
    let call = worked_call seen shelf g.R.Rack.runs g.met.R.Rack.sound g.met.R.Bay.runs_shelf done p q c.requires all in
    let left = c.left.ensures in
    let most = c.min-most.ensures in
    let test = c.loop-done-test.false in
    let inside = c.loop-done.invariant.inside in
    record {
      steps = record {
        passes = call.passes;
        raises = raises_fewer done c.args.count (view seen shelf p) (view seen shelf q) (omega (arith, most, inside)) call.raises;
        marks = call.marks;
        does = worked_does seen shelf g.R.Rack.runs g.met.R.Rack.sound g.met.R.Bay.runs_shelf done p q c.requires all;
        members = all.members;
        plan = all.plan;
        left = c.left-2.ensures;
        progress = does_all (view seen shelf p) (view seen shelf q) done c.args.count (omega (arith, left, most, test, inside)) c.loop-done.invariant.does;
        stuck = tt;
      };
      runs = all.ran.below;
    }
