use Rattle.std.proofs.Common.{◌≡◌, Err, inl, inr, subst, arith}
use Rattle.std.proofs.lemmas.Bool.{cases_lt}
use Rattle.rack.proofs.Writing.{only_none}
use Rattle.pool_format.specs.Drives.{LeavesClosed, LeavesSingle}
use Rattle.pool_format.specs.Writing.{InClosing, InClosings}
use Rattle.pool_format.proofs.Laying.{lays_after, lays_end, lays_weaker, room_then}
use Rattle.pool_format.proofs.Leaving.{closed_later, closed_still, closing_any, single_later, single_still}
use Rattle.pool_format.proofs.drives.close_drives.Goals as goal

pub loop-place-init : goal.loop-place-init
loop-place-init g c = record {
  laid = only_none (g.R.Rack.seen c.args.rack.now) (InClosings c.args.plan.now) c.requires.fit;
  closed = λ d below. absurd (omega (arith, below));
  single = λ d below. absurd (omega (arith, below));
  runs = g.met.R.Rack.runs_same c.args.rack.now;
}

pub close_drive-requires-clause-fit : goal.close_drive-requires-clause-fit
close_drive-requires-clause-fit g c = c.loop-place.invariant.laid.stays.fit

pub close_drive-requires-clause-room : goal.close_drive-requires-clause-room
close_drive-requires-clause-room g c = room_then c.args.plan.now (g.R.Rack.seen c.args.rack.now) (g.R.Rack.seen c.loop-place.rack) c.loop-place.invariant.laid.stays c.requires.room

pub close_drive-requires-clause-place : goal.close_drive-requires-clause-place
close_drive-requires-clause-place g c = (omega (arith, c.loop-place-test.true, c.len-place-end.ensures.value))

pub loop-place-preserved : goal.loop-place-preserved
loop-place-preserved g c =
    let plan = c.args.plan.now in
    let birth = c.args.birth.now in
    let place = c.loop-place.place in
    let a = g.R.Rack.seen c.args.rack.now in
    let m = g.R.Rack.seen c.loop-place.rack in
    let b = g.R.Rack.seen c.close_drive.new.rack in
    let stays = c.loop-place.invariant.laid.stays in
    record {
      laid = (lays_after (InClosings plan) a m b c.close_drive.result c.loop-place.invariant.laid
          (lays_weaker (InClosing plan place) (InClosings plan) m b c.close_drive.result (closing_any plan place) c.close_drive.ensures.lays)).only;
      closed = λ d below. elim (cases_lt d place) [
        | inl before ↦
            closed_still plan birth d (InClosing plan place) stays c.close_drive.ensures.lays.only
            (λ s v at may. let same = may.0 in omega (arith, before, same)) (c.loop-place.invariant.closed d before)
        | inr last ↦
            let same : place ≡ d = omega (arith, below, last) in
            closed_later plan birth d stays (subst (λ k. LeavesClosed plan birth k m b) same c.in_default.ensures.closed)
      ];
      single = λ d below. elim (cases_lt d place) [
        | inl before ↦
            single_still d (InClosing plan place) stays c.close_drive.ensures.lays.only (λ s v may. let same = may.0 in omega (arith, before, same))
            (c.loop-place.invariant.single d before)
        | inr last ↦
            let same : place ≡ d = omega (arith, below, last) in
            single_later d stays (subst (λ k. LeavesSingle k m b) same c.in_default.ensures.single)
      ];
      runs = g.met.R.Rack.runs_then _ _ _ c.loop-place.invariant.runs c.close_drive.ensures.runs;
    }

pub returns-in-Err-clause-lays : goal.returns-in-Err-clause-lays
returns-in-Err-clause-lays g c =
    let plan = c.args.plan.now in
    let m = g.R.Rack.seen c.loop-place.rack in
    let b = g.R.Rack.seen c.close_drive.new.rack in
    lays_after (InClosings plan) (g.R.Rack.seen c.args.rack.now) m b (Err c.in-Err.gone) c.loop-place.invariant.laid
    (lays_weaker (InClosing plan c.loop-place.place) (InClosings plan) m b (Err c.in-Err.gone) (closing_any plan c.loop-place.place) c.in-Err.ensures.lays)

pub returns-clause-lays : goal.returns-clause-lays
returns-clause-lays g c = lays_end (InClosings c.args.plan.now) (g.R.Rack.seen c.args.rack.now) (g.R.Rack.seen c.loop-place.rack) c.loop-place.invariant.laid

pub returns-clause-closed : goal.returns-clause-closed
returns-clause-closed g c = λ d below. c.loop-place.invariant.closed d (omega (arith, below, c.loop-place-test.false, c.len-place-end.ensures.value))

pub returns-clause-single : goal.returns-clause-single
returns-clause-single g c = λ d below. c.loop-place.invariant.single d (omega (arith, below, c.loop-place-test.false, c.len-place-end.ensures.value))
