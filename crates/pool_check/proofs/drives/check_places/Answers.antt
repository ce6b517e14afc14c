use Rattle.std.proofs.Common.{◌≡◌, ℕ, None, ap, subst, sym, ◌∙◌, inl, inr, arith}
use Rattle.std.proofs.lemmas.Bool.{cases_eq}
use Rattle.rack.proofs.Reading.{only_reads_join}
use Rattle.pool_check.specs.Drives.{found_with, seats_by}
use Rattle.pool_check.specs.Slots.{IsSoundDrive}
use Rattle.pool_check.specs.Refusing.{damage_with, is_well}
use Rattle.pool_check.proofs.AfterReads.{drives_then, halts_later}
use Rattle.array_core.proofs.Opened.{current_below}
use Rattle.pool_check.proofs.Compared.{agreement_then, compared_more}
use Rattle.pool_check.proofs.Parts.{first_is}
use Rattle.pool_check.proofs.drives.check_places.Goals as goal

pub loop-place-preserved : goal.loop-place-preserved
loop-place-preserved g c =
    let s = c.args.state.now in
    let seats = seats_by c.args.seats.now in
    record {
      only = only_reads_join c.loop-place.invariant.only c.in-Ok.ensures.only;
      sound = λ o are copied read p below.
          elim (cases_eq p c.loop-place.place) [
            | inl same ↦
                subst (λ (q : ℕ). damage_with (is_well c.args.bad) (found_with s seats o) q ≡ None) (sym same)
                (c.in-Ok.ensures.sound o (drives_then s seats o c.loop-place.invariant.only c.requires.seating are) copied read)
            | inr other ↦ c.loop-place.invariant.sound o are copied read p (omega (arith, below, other))
          ];
      drives = λ p d below seat.
          elim (cases_eq p c.loop-place.place) [
            | inl same ↦
                subst (λ (q : ℕ). IsSoundDrive c.args.layers.now q ((g.R.Rack.seen c.args.rack.now).sectors d)) (sym same)
                (subst (IsSoundDrive c.args.layers.now c.loop-place.place) (c.loop-place.invariant.only.stays.sectors d)
                (c.in-Ok.ensures.drive d (sym (ap seats same) ∙ seat)))
            | inr other ↦ c.loop-place.invariant.drives p d (omega (arith, below, other)) seat
          ];
      agreed =
          compared_more (g.R.Rack.seen c.args.rack.now) seats c.loop-place.agreed c.put_flag.new.flags c.loop-place.place c.in-Ok.agree c.put_flag.ensures
          c.loop-place.invariant.agreed
          (λ d seat.
          agreement_then (g.R.Rack.seen c.args.rack.now) (g.R.Rack.seen c.loop-place.rack) d c.in-Ok.agree c.loop-place.invariant.only
          (c.requires.seating.inside c.loop-place.place d seat) (c.in-Ok.ensures.agree d seat));
      runs = g.met.R.Rack.runs_then _ _ _ c.loop-place.invariant.runs c.in-Ok.ensures.runs;
    }

pub returns-in-Err-clause-halts : goal.returns-in-Err-clause-halts
returns-in-Err-clause-halts g c =
    let s = c.args.state.now in
    let seats = seats_by c.args.seats.now in
    halts_later (g.R.Rack.seen c.args.rack.now) (g.R.Rack.seen c.loop-place.rack) (g.R.Rack.seen c.check_place.new.rack) seats c.in-Err.halt c.loop-place.invariant.only.stays
    (λ fault damage o are copied read.
    first_is (is_well c.args.bad) (found_with s seats o) (record { few = c.requires.state.few; current = c.requires.seating.current }) c.loop-place.place fault
    (c.loop-place.invariant.sound o are copied read)
    (damage o (drives_then s seats o c.loop-place.invariant.only c.requires.seating are) copied read))
    c.in-Err.ensures.halts

pub returns-clause-agreed : goal.returns-clause-agreed
returns-clause-agreed g c place d seat =
    let listed = current_below c.args.state.now place (c.requires.seating.current place d seat) in
    let few = c.requires.state.few in
    c.loop-place.invariant.agreed place d (omega (arith, listed, few)) seat

pub returns-clause-drives : goal.returns-clause-drives
returns-clause-drives g c p d below seat = c.loop-place.invariant.drives p d (omega (arith, below)) seat
