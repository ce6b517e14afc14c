use Rattle.std.proofs.Common.{◌≡◌, Err, inl, inr, subst, arith}
use Rattle.std.proofs.lemmas.Bool.{cases_lt}
use Rattle.std.proofs.lemmas.Option.{slice_get_within}
use Rattle.rack.proofs.Writing.{only_none}
use Rattle.pool_format.specs.Drives.{LeavesSuper}
use Rattle.pool_format.specs.Writing.{InSuper, InSupers}
use Rattle.pool_format.proofs.Laying.{lays_after, lays_end, lays_weaker, room_then}
use Rattle.pool_format.proofs.Leaving.{super_later, super_still, supers_apart}
use Rattle.pool_format.proofs.drives.write_supers.Goals as goal

pub loop-number-init : goal.loop-number-init
loop-number-init g c = record {
  laid = only_none (g.R.Rack.seen c.args.rack.now) (InSupers c.args.plan.now c.args.place) c.requires.fit;
  stand = λ n below. absurd (omega (arith, below));
  runs = g.met.R.Rack.runs_same c.args.rack.now;
}

pub write_super-requires-clause-fit : goal.write_super-requires-clause-fit
write_super-requires-clause-fit g c = c.loop-number.invariant.laid.stays.fit

pub write_super-requires-clause-room : goal.write_super-requires-clause-room
write_super-requires-clause-room g c = room_then c.args.plan.now (g.R.Rack.seen c.args.rack.now) (g.R.Rack.seen c.loop-number.rack) c.loop-number.invariant.laid.stays c.requires.room

pub write_super-requires-clause-number : goal.write_super-requires-clause-number
write_super-requires-clause-number g c = omega (arith, c.loop-number-test.true, c.len-number-end.ensures.value)

pub loop-number-preserved : goal.loop-number-preserved
loop-number-preserved g c =
    let plan = c.args.plan.now in
    let birth = c.args.birth.now in
    let place = c.args.place in
    let number = c.loop-number.number in
    let a = g.R.Rack.seen c.args.rack.now in
    let m = g.R.Rack.seen c.loop-number.rack in
    let b = g.R.Rack.seen c.write_super.new.rack in
    let stays = c.loop-number.invariant.laid.stays in
    record {
      laid = (lays_after (InSupers plan place) a m b c.write_super.result c.loop-number.invariant.laid
          (lays_weaker (InSuper plan place number) (InSupers plan place) m b c.write_super.result (λ d s v may. (may.0, number, may.1)) c.write_super.ensures.lays)).only;
      stand = λ n below. elim (cases_lt n number) [
        | inl before ↦
            super_still plan birth place n (InSuper plan place number) stays c.write_super.ensures.lays.only
            (λ s v super may. supers_apart plan c.requires.plan place n number s (λ same. omega (arith, before, same)) super may.1)
            (c.loop-number.invariant.stand n before)
        | inr last ↦
            let same : number ≡ n = omega (arith, below, last) in
            super_later plan birth place n stays (subst (λ k. LeavesSuper plan birth place k m b) same c.in_default.ensures.stands)
      ];
      runs = g.met.R.Rack.runs_then _ _ _ c.loop-number.invariant.runs c.write_super.ensures.runs;
    }

pub returns-in-Err-clause-lays : goal.returns-in-Err-clause-lays
returns-in-Err-clause-lays g c =
    let may = InSupers c.args.plan.now c.args.place in
    let m = g.R.Rack.seen c.loop-number.rack in
    let b = g.R.Rack.seen c.write_super.new.rack in
    lays_after may (g.R.Rack.seen c.args.rack.now) m b (Err c.in-Err.gone) c.loop-number.invariant.laid
    (lays_weaker (InSuper c.args.plan.now c.args.place c.loop-number.number) may m b (Err c.in-Err.gone) (λ d s v at. (at.0, c.loop-number.number, at.1)) c.in-Err.ensures.lays)

pub returns-clause-lays : goal.returns-clause-lays
returns-clause-lays g c = lays_end (InSupers c.args.plan.now c.args.place) (g.R.Rack.seen c.args.rack.now) (g.R.Rack.seen c.loop-number.rack) c.loop-number.invariant.laid

pub returns-clause-stand : goal.returns-clause-stand
returns-clause-stand g c = λ n e at among live.
    let low = slice_get_within c.args.plan.now.arrays.items n e at in
    c.loop-number.invariant.stand n (omega (arith, low, c.loop-number-test.false, c.len-number-end.ensures.value)) e at among live
