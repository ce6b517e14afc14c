use Rattle.std.proofs.Common.{◌≡◌, Err, inl, inr, subst, arith}
use Rattle.std.proofs.lemmas.Bool.{cases_lt}
use Rattle.rack.proofs.Writing.{only_none}
use Rattle.pool_format.specs.Drives.{LeavesLaid}
use Rattle.pool_format.specs.Writing.{InLaying, InLayings}
use Rattle.pool_format.proofs.Laying.{lays_after, lays_end, lays_weaker, room_then}
use Rattle.pool_format.proofs.Leaving.{laid_later, laid_still, laying_any}
use Rattle.pool_format.proofs.drives.lay_drives.Goals as goal

pub loop-place-init : goal.loop-place-init
loop-place-init g c = record {
  only = only_none (g.R.Rack.seen c.args.rack.now) (InLayings c.args.plan.now (g.R.Rack.seen c.args.rack.now).sectors) c.requires.fit;
  laid = λ d below. absurd (omega (arith, below));
  runs = g.met.R.Rack.runs_same c.args.rack.now;
}

pub lay_drive-requires-clause-fit : goal.lay_drive-requires-clause-fit
lay_drive-requires-clause-fit g c = c.loop-place.invariant.only.stays.fit

pub lay_drive-requires-clause-room : goal.lay_drive-requires-clause-room
lay_drive-requires-clause-room g c = room_then c.args.plan.now (g.R.Rack.seen c.args.rack.now) (g.R.Rack.seen c.loop-place.rack) c.loop-place.invariant.only.stays c.requires.room

pub lay_drive-requires-clause-place : goal.lay_drive-requires-clause-place
lay_drive-requires-clause-place g c = (omega (arith, c.loop-place-test.true, c.len-place-end.ensures.value))

pub loop-place-preserved : goal.loop-place-preserved
loop-place-preserved g c =
    let plan = c.args.plan.now in
    let birth = c.args.birth.now in
    let place = c.loop-place.place in
    let a = g.R.Rack.seen c.args.rack.now in
    let m = g.R.Rack.seen c.loop-place.rack in
    let b = g.R.Rack.seen c.lay_drive.new.rack in
    let stays = c.loop-place.invariant.only.stays in
    record {
      only = (lays_after (InLayings plan a.sectors) a m b c.lay_drive.result c.loop-place.invariant.only
          (lays_weaker (InLaying plan m.sectors place) (InLayings plan a.sectors) m b c.lay_drive.result (laying_any plan a m place stays) c.lay_drive.ensures.lays)).only;
      laid = λ d below. elim (cases_lt d place) [
        | inl before ↦
            laid_still plan birth d (InLaying plan m.sectors place) stays c.lay_drive.ensures.lays.only
            (λ s v of may. let same = may.0 in omega (arith, before, same)) (c.loop-place.invariant.laid d before)
        | inr last ↦
            let same : place ≡ d = omega (arith, below, last) in
            laid_later plan birth d stays (subst (λ k. LeavesLaid plan birth k m b) same c.in_default.ensures.laid)
      ];
      runs = g.met.R.Rack.runs_then _ _ _ c.loop-place.invariant.runs c.lay_drive.ensures.runs;
    }

pub returns-in-Err-clause-lays : goal.returns-in-Err-clause-lays
returns-in-Err-clause-lays g c =
    let plan = c.args.plan.now in
    let a = g.R.Rack.seen c.args.rack.now in
    let m = g.R.Rack.seen c.loop-place.rack in
    let b = g.R.Rack.seen c.lay_drive.new.rack in
    lays_after (InLayings plan a.sectors) a m b (Err c.in-Err.gone) c.loop-place.invariant.only
    (lays_weaker (InLaying plan m.sectors c.loop-place.place) (InLayings plan a.sectors) m b (Err c.in-Err.gone)
    (laying_any plan a m c.loop-place.place c.loop-place.invariant.only.stays) c.in-Err.ensures.lays)

pub returns-clause-lays : goal.returns-clause-lays
returns-clause-lays g c = lays_end (InLayings c.args.plan.now (g.R.Rack.seen c.args.rack.now).sectors) (g.R.Rack.seen c.args.rack.now) (g.R.Rack.seen c.loop-place.rack) c.loop-place.invariant.only

pub returns-clause-laid : goal.returns-clause-laid
returns-clause-laid g c = λ d below. c.loop-place.invariant.laid d (omega (arith, below, c.loop-place-test.false, c.len-place-end.ensures.value))
