use Rattle.std.proofs.Common.{ℕ, ◌+◌, ◌<◌, subst, arith}
use Rattle.rack.proofs.Reading.{only_reads_join}
use Rattle.array_image.specs.Places.{arrays_first}
use Rattle.array_core.proofs.Opened.{current_below}
use Rattle.pool_check.specs.Drives.{flag_by, seats_by}
use Rattle.pool_check.specs.Slots.{behind}
use Rattle.pool_check.proofs.AfterReads.{drives_then}
use Rattle.pool_check.proofs.Compared.{agreement_then}
use Rattle.pool_check.proofs.Losing.{fewer_seated, loses_more, seating_without}
use Rattle.pool_check.proofs.checking.check_drives.Goals as goal

pub returns-in-Ok-clause-exact : goal.returns-in-Ok-clause-exact
returns-in-Ok-clause-exact g c o are copied =
    c.in-Ok.ensures.checked o
    (drives_then c.args.state.now (seats_by c.again.seats) o c.again.invariant.only c.again.invariant.seating are) copied

pub returns-in-Err-Fault-clause-exact : goal.returns-in-Err-Fault-clause-exact
returns-in-Err-Fault-clause-exact g c o are copied =
    let says = rw c.in-Err-Fault.field-0-is at c.in-Err-Fault.ensures.halts in
    says o (drives_then c.args.state.now (seats_by c.again.seats) o c.again.invariant.only c.again.invariant.seating are) copied

pub put_seat-requires : goal.put_seat-requires
put_seat-requires g c =
    let goes = rw c.in-Err-Went.field-0-is at c.in-Err-Went.ensures.halts in
    let listed = current_below c.args.state.now c.in-Err-Went.place (c.again.invariant.seating.current c.in-Err-Went.place goes.0 goes.1) in
    let few = c.requires.state.few in
    omega (arith, listed, few)

pub again-smaller : goal.again-smaller
again-smaller g c =
    let goes = rw c.in-Err-Went.field-0-is at c.in-Err-Went.ensures.halts in
    let place = c.in-Err-Went.place in
    let listed = current_below c.args.state.now place (c.again.invariant.seating.current place goes.0 goes.1) in
    let few = c.requires.state.few in
    let low : place < 16 = omega (arith, listed, few) in
    fewer_seated (seats_by c.again.seats) (seats_by c.put_seat.new.seats) place goes.0 c.put_seat.ensures goes.1 low

pub again-preserved : goal.again-preserved
again-preserved g c =
    let x = g.R.Rack.seen c.args.rack.now in
    let y = g.R.Rack.seen c.again.rack in
    let z = g.R.Rack.seen c.check_seated.new.rack in
    let goes = rw c.in-Err-Went.field-0-is at c.in-Err-Went.ensures.halts in
    let place = c.in-Err-Went.place in
    let before = seats_by c.again.seats in
    let after = seats_by c.put_seat.new.seats in
    record {
      only = only_reads_join c.again.invariant.only c.in-Err-Went.ensures.only;
      seats =
          loses_more x y z (seats_by c.args.seats.now) before after place c.again.invariant.only.stays c.in-Err-Went.ensures.only.stays
          c.put_seat.ensures goes c.again.invariant.seats;
      seating = seating_without x c.args.state.now before after place c.put_seat.ensures c.again.invariant.seating;
      runs = g.met.R.Rack.runs_then _ _ _ c.again.invariant.runs c.in-Err-Went.ensures.runs;
    }

pub returns-in-Ok-clause-agreed : goal.returns-in-Ok-clause-agreed
returns-in-Ok-clause-agreed g c place d seat =
    agreement_then (g.R.Rack.seen c.args.rack.now) (g.R.Rack.seen c.again.rack) d (flag_by c.in-Ok.checked.agreed place) c.again.invariant.only
    (c.again.invariant.seating.inside place d seat) (c.in-Ok.ensures.agreed place d seat)

pub returns-in-Ok-clause-slots : goal.returns-in-Ok-clause-slots
returns-in-Ok-clause-slots g c =
    let slots = c.in-Ok.ensures.slots in
    record {
      lengths = slots.lengths;
      ordered = slots.ordered;
      sizes = slots.sizes;
      fits = λ n v e place d at_v at_e named seat.
          subst (λ (m : ℕ). behind e + 32 < m) (c.again.invariant.only.stays.sectors d) (slots.fits n v e place d at_v at_e named seat);
    }

pub returns-in-Ok-clause-room : goal.returns-in-Ok-clause-room
returns-in-Ok-clause-room g c place d seat =
    subst (λ (m : ℕ). arrays_first + 32 < m) (c.again.invariant.only.stays.sectors d) (c.in-Ok.ensures.room place d seat)

pub returns-in-Err-Fault-clause-counts : goal.returns-in-Err-Fault-clause-counts
returns-in-Err-Fault-clause-counts g c = rw c.in-Err-Fault.field-0-is at c.in-Err-Fault.ensures.counts
