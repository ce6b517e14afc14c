use Rattle.std.proofs.Common.{◌≡◌, ℕ, ◌+◌, ◌<◌, List, length, Ok, Err, inl, inr, true, refl, sym, ap, subst, ◌∙◌, arith}
use Rattle.std.proofs.lemmas.Bool.{cases_lt}
use Rattle.rack.proofs.Durably.{durable_only}
use Rattle.rack.proofs.Writing.{only_none, only_weaker}
use Rattle.pool_state.specs.declared.contents.State.{State}
use Rattle.pool_state.specs.Sector.{decoded}
use Rattle.pool_state.specs.Valid.{is_valid}
use Rattle.pool_format.specs.declared.Birth.{Birth}
use Rattle.pool_format.specs.declared.planning.NewPool.{NewPool}
use Rattle.pool_format.specs.Parts.{new_state}
use Rattle.pool_format.specs.Plan.{IsPlan}
use Rattle.pool_format.specs.Drives.{IsCopyOf, LeavesState}
use Rattle.pool_format.specs.Writing.{InStates}
use Rattle.pool_format.proofs.Laying.{lays_after, lays_durable, lays_end}
use Rattle.pool_format.proofs.Leaving.{state_later, state_still, state_written}
use Rattle.pool_format.proofs.Founded.{state_valid}
use Rattle.pool_format.proofs.Stopping.{InStatesTo, copies_more, copies_none}
use Rattle.pool_format.proofs.states.write_states.Goals as goal

-- the copy of a place
copy_of : (plan : NewPool) (birth : Birth) (place : ℕ) (state : State) (v : List ℕ) → IsPlan plan → place < length plan.units.items → state ≡ new_state plan birth → length v ≡ 512
    → (is_valid state place ≡ true → decoded v ≡ Ok (record { state = state; own = place })) → IsCopyOf plan birth place v
copy_of plan birth place state v is low same long says = record {
  sized = long;
  says =
      says (subst (λ (s : State). is_valid s place ≡ true) (sym same) (state_valid plan birth is place low))
      ∙ ap (λ (s : State). Ok (record { state = s; own = place })) same;
}

more_states : (plan : NewPool) (place d s : ℕ) (v : List ℕ) → InStatesTo plan place d s v → InStatesTo plan (place + 1) d s v
more_states plan place d s v may = (may.0, let below = may.1 in omega (arith, below))

pub loop-place-init : goal.loop-place-init
loop-place-init g c = record {
  laid = only_none (g.R.Rack.seen c.args.rack.now) (InStatesTo c.args.plan.now 0) c.requires.fit;
  states = λ d below. absurd (omega (arith, below));
  copies = copies_none c.args.plan.now c.args.birth.now (g.R.Rack.seen c.args.rack.now);
  runs = g.met.R.Rack.runs_same c.args.rack.now;
}

pub write_durably-requires-clause-fit : goal.write_durably-requires-clause-fit
write_durably-requires-clause-fit g c = c.loop-place.invariant.laid.stays.fit

pub write_durably-requires-clause-disk : goal.write_durably-requires-clause-disk
write_durably-requires-clause-disk g c = (let disks = c.requires.room.disks in let same = c.loop-place.invariant.laid.stays.disks in omega (arith, disks, same, c.loop-place-test.true, c.len-place-end.ensures.value))

pub write_durably-requires-clause-sector : goal.write_durably-requires-clause-sector
write_durably-requires-clause-sector g c =
    let logs = c.requires.room.logs c.loop-place.place (let disks = c.requires.room.disks in omega (arith, disks, c.loop-place-test.true, c.len-place-end.ensures.value)) in
    let same = c.loop-place.invariant.laid.stays.sectors c.loop-place.place in
    omega (arith, logs, same)

pub loop-place-preserved : goal.loop-place-preserved
loop-place-preserved g c =
    let plan = c.args.plan.now in
    let birth = c.args.birth.now in
    let place = c.loop-place.place in
    let a = g.R.Rack.seen c.args.rack.now in
    let m = g.R.Rack.seen c.loop-place.rack in
    let b = g.R.Rack.seen c.write_durably.new.rack in
    let v = c.encode_state-copy.result in
    let stays = c.loop-place.invariant.laid.stays in
    let low : place < length plan.units.items = omega (arith, c.loop-place-test.true, c.len-place-end.ensures.value) in
    let long : length v ≡ 512 = search in
    let copy : IsCopyOf plan birth place v = copy_of plan birth place c.new_state-state.result v c.requires.plan low c.new_state-state.ensures long c.encode_state-copy.ensures in
    let next : place < place + 1 = omega arith in
    record {
      laid = (lays_after (InStatesTo plan (place + 1)) a m b c.write_durably.result (only_weaker (InStatesTo plan place) (InStatesTo plan (place + 1)) (more_states plan place) c.loop-place.invariant.laid)
          (lays_durable (InStatesTo plan (place + 1)) m b place 2048 v c.write_durably.result (let disks = c.requires.room.disks in let same = stays.disks in omega (arith, disks, same, low)) ((low, refl), next) c.write_durably.ensures.writes)).only;
      states = λ d below. elim (cases_lt d place) [
        | inl before ↦
            state_still plan birth d _ stays (durable_only c.write_durably.result c.write_durably.ensures.writes)
            (λ s w may. let same = may.0 in omega (arith, before, same)) (c.loop-place.invariant.states d before)
        | inr last ↦
            let same : place ≡ d = omega (arith, below, last) in
            state_later plan birth d stays (subst (λ k. LeavesState plan birth k m b) same (state_written plan birth place m b v (Ok tt) copy c.in_default.ensures.writes))
      ];
      copies = copies_more plan birth a m b place v c.write_durably.result c.loop-place.invariant.laid c.loop-place.invariant.states copy c.write_durably.ensures.writes c.loop-place.invariant.copies;
      runs = g.met.R.Rack.runs_then _ _ _ c.loop-place.invariant.runs c.write_durably.ensures.runs;
    }

pub returns-in-Err-clause-lays : goal.returns-in-Err-clause-lays
returns-in-Err-clause-lays g c =
    let plan = c.args.plan.now in
    let place = c.loop-place.place in
    let m = g.R.Rack.seen c.loop-place.rack in
    let b = g.R.Rack.seen c.write_durably.new.rack in
    let low : place < length plan.units.items = omega (arith, c.loop-place-test.true, c.len-place-end.ensures.value) in
    lays_after (InStates plan) (g.R.Rack.seen c.args.rack.now) m b (Err c.in-Err.gone)
    (only_weaker (InStatesTo plan place) (InStates plan) (λ d s w may. may.0) c.loop-place.invariant.laid)
    (lays_durable (InStates plan) m b place 2048 c.encode_state-copy.result (Err c.in-Err.gone)
    (let disks = c.requires.room.disks in let same = c.loop-place.invariant.laid.stays.disks in omega (arith, disks, same, low)) (low, refl) c.in-Err.ensures.writes)

pub returns-in-Err-clause-copies : goal.returns-in-Err-clause-copies
returns-in-Err-clause-copies g c =
    let plan = c.args.plan.now in
    let birth = c.args.birth.now in
    let place = c.loop-place.place in
    let v = c.encode_state-copy.result in
    let low : place < length plan.units.items = omega (arith, c.loop-place-test.true, c.len-place-end.ensures.value) in
    let long : length v ≡ 512 = search in
    let copy : IsCopyOf plan birth place v = copy_of plan birth place c.new_state-state.result v c.requires.plan low c.new_state-state.ensures long c.encode_state-copy.ensures in
    copies_more plan birth (g.R.Rack.seen c.args.rack.now) (g.R.Rack.seen c.loop-place.rack) (g.R.Rack.seen c.write_durably.new.rack) place v c.write_durably.result
    c.loop-place.invariant.laid c.loop-place.invariant.states copy c.write_durably.ensures.writes c.loop-place.invariant.copies

pub returns-clause-lays : goal.returns-clause-lays
returns-clause-lays g c =
    let plan = c.args.plan.now in
    lays_end (InStates plan) (g.R.Rack.seen c.args.rack.now) (g.R.Rack.seen c.loop-place.rack)
    (only_weaker (InStatesTo plan c.loop-place.place) (InStates plan) (λ d s v may. may.0) c.loop-place.invariant.laid)

pub returns-clause-states : goal.returns-clause-states
returns-clause-states g c = λ d below. c.loop-place.invariant.states d (omega (arith, below, c.loop-place-test.false, c.len-place-end.ensures.value))
