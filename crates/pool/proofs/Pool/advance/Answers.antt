use Rattle.std.proofs.Common.{◌≡◌, Some, slice_get, sym, subst, arith}
use Rattle.raid_rack.specs.RaidRack.{IsFit, KeepsRack, arrays_in, raid_seen, slices_seen}
use Rattle.pool.specs.View.{arrays_of, view}
use Rattle.pool.specs.Works.{works_of}
use Rattle.pool.proofs.Stepping.{SaysOf, first_done, is_stuck_at, none_left, some_done, work_book, work_plan}
use Rattle.pool.proofs.Working.{worked_by, worked_many, worked_none}
use Rattle.pool.proofs.Pool.advance.Goals as goal

pub works-requires : goal.works-requires
works-requires g c = record { fit = subst (λ r. IsFit (arrays_in r) (slices_seen g.R.Rack.seen r)) (sym c.inner.ensures.value) c.requires.fit.0; some = c.requires.some }

pub returns-in-Some : goal.returns-in-Some
returns-in-Some g c =
    let seen = g.R.Rack.seen in
    let shelf = g.R.Bay.shelf in
    let p = c.args.self.now in
    let most = c.args.most in
    let new = c.works.new.self in
    let own = c.works.ensures in
    let work = c.in-Some.work in
    let first : slice_get (works_of (view seen shelf p)) 0 ≡ Some work = sym c.in-Some.ensures.first in
    let says : SaysOf seen work most c.works.result c.works.result (arrays_of p) new =
    subst (λ old. SaysOf seen work most c.works.result c.works.result old new) c.inner.ensures.value (record { idle = own.idle; does = own.does; named = own.named }) in
    let after = (subst (λ old. KeepsRack (raid_seen seen old) (raid_seen seen new)) c.inner.ensures.value own.keeps).stays.fit in
    let book = work_book seen shelf p new work most c.requires.fit c.works.result after says in
    let plan = work_plan seen shelf p new work most c.requires.fit c.works.result first book says in
    let worked = worked_by seen shelf g.R.Rack.runs p _ new c.inner.ensures.value own.keeps own.runs own.book book plan.0 plan.1 own.raises in
    record {
      worked = worked;
      some = some_done seen shelf g.R.Rack.runs g.met.R.Rack.sound g.met.R.Bay.runs_shelf p new work most c.requires.fit first c.requires.some c.works.result says;
      done = first_done seen shelf g.R.Rack.runs g.met.R.Rack.sound g.met.R.Bay.runs_shelf p new work most c.requires.fit first c.works.result worked says;
      stuck = is_stuck_at seen shelf g.R.Rack.runs g.met.R.Rack.sound g.met.R.Bay.runs_shelf p new work most c.requires.fit first c.works.result says;
    }

pub returns-in-None : goal.returns-in-None
returns-in-None g c =
    let p = c.args.self.now in
    record {
      worked = worked_many g.R.Rack.seen g.R.Bay.shelf g.R.Rack.runs 0 1 p p (omega arith) (worked_none g.R.Rack.seen g.R.Bay.shelf g.R.Rack.runs g.met.R.Rack.runs_same p c.requires.fit);
      some = (c.requires.some, omega arith);
      done = λ quiet alone. (alone, none_left (works_of (view g.R.Rack.seen g.R.Bay.shelf p)) c.args.most (sym c.in-None.ensures.first));
      stuck = tt;
    }
