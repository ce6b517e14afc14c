use Rattle.std.proofs.Common.{◌≡◌, ◌<◌, Ok, Err, inl, inr, refl, replicate, length, subst, arith}
use Rattle.std.proofs.lemmas.Bool.{cases_lt}
use Rattle.rack.proofs.Durably.{durable_only}
use Rattle.rack.proofs.Writing.{only_none}
use Rattle.pool_format.specs.Drives.{LeavesCleared}
use Rattle.pool_format.specs.Writing.{InCleared}
use Rattle.pool_format.proofs.Laying.{lays_after, lays_durable, lays_end}
use Rattle.pool_format.proofs.Leaving.{cleared_later, cleared_still, cleared_written}
use Rattle.pool_format.proofs.states.clear_states.Goals as goal

pub loop-place-init : goal.loop-place-init
loop-place-init g c = record {
  laid = only_none (g.R.Rack.seen c.args.rack.now) (InCleared c.args.plan.now) c.requires.fit;
  cleared = λ d below. absurd (omega (arith, below));
  runs = g.met.R.Rack.runs_same c.args.rack.now;
}

pub write_durably-requires-clause-fit : goal.write_durably-requires-clause-fit
write_durably-requires-clause-fit g c = c.loop-place.invariant.laid.stays.fit

pub write_durably-requires-clause-disk : goal.write_durably-requires-clause-disk
write_durably-requires-clause-disk g c = (let disks = c.requires.room.disks in let same = c.loop-place.invariant.laid.stays.disks in omega (arith, disks, same, c.loop-place-test.true, c.len-place-end.ensures.value))

pub write_durably-requires-clause-sector : goal.write_durably-requires-clause-sector
write_durably-requires-clause-sector g c =
    let logs = c.requires.room.logs c.loop-place.place (let disks = c.requires.room.disks in omega (arith, disks, c.loop-place-test.true, c.len-place-end.ensures.value)) in
    let same = c.loop-place.invariant.laid.stays.sectors c.loop-place.place in
    omega (arith, logs, same)

pub loop-place-preserved : goal.loop-place-preserved
loop-place-preserved g c =
    let plan = c.args.plan.now in
    let place = c.loop-place.place in
    let a = g.R.Rack.seen c.args.rack.now in
    let m = g.R.Rack.seen c.loop-place.rack in
    let b = g.R.Rack.seen c.write_durably.new.rack in
    let stays = c.loop-place.invariant.laid.stays in
    let low : place < length plan.units.items = omega (arith, c.loop-place-test.true, c.len-place-end.ensures.value) in
    record {
      laid = (lays_after (InCleared plan) a m b c.write_durably.result c.loop-place.invariant.laid
          (lays_durable (InCleared plan) m b place 2048 (replicate 512 0) c.write_durably.result (let disks = c.requires.room.disks in let same = stays.disks in omega (arith, disks, same, low))
          ((low, refl), refl) c.write_durably.ensures.writes)).only;
      cleared = λ d below. elim (cases_lt d place) [
        | inl before ↦
            cleared_still d _ stays (durable_only c.write_durably.result c.write_durably.ensures.writes) (λ w may. let same = may.0 in omega (arith, before, same))
            (c.loop-place.invariant.cleared d before)
        | inr last ↦
            let same : place ≡ d = omega (arith, below, last) in
            cleared_later d stays (subst (λ k. LeavesCleared k m b) same (cleared_written place m b (Ok tt) c.in_default.ensures.writes))
      ];
      runs = g.met.R.Rack.runs_then _ _ _ c.loop-place.invariant.runs c.write_durably.ensures.runs;
    }

pub returns-in-Err-clause-lays : goal.returns-in-Err-clause-lays
returns-in-Err-clause-lays g c =
    let plan = c.args.plan.now in
    let place = c.loop-place.place in
    let m = g.R.Rack.seen c.loop-place.rack in
    let b = g.R.Rack.seen c.write_durably.new.rack in
    let low : place < length plan.units.items = omega (arith, c.loop-place-test.true, c.len-place-end.ensures.value) in
    lays_after (InCleared plan) (g.R.Rack.seen c.args.rack.now) m b (Err c.in-Err.gone) c.loop-place.invariant.laid
    (lays_durable (InCleared plan) m b place 2048 (replicate 512 0) (Err c.in-Err.gone)
    (let disks = c.requires.room.disks in let same = c.loop-place.invariant.laid.stays.disks in omega (arith, disks, same, low)) ((low, refl), refl) c.in-Err.ensures.writes)

pub returns-clause-lays : goal.returns-clause-lays
returns-clause-lays g c = lays_end (InCleared c.args.plan.now) (g.R.Rack.seen c.args.rack.now) (g.R.Rack.seen c.loop-place.rack) c.loop-place.invariant.laid

pub returns-clause-cleared : goal.returns-clause-cleared
returns-clause-cleared g c = λ d below. c.loop-place.invariant.cleared d (omega (arith, below, c.loop-place-test.false, c.len-place-end.ensures.value))
