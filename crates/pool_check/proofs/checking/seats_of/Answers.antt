use Rattle.std.proofs.Common.{ℕ, Bool, if◌then◌else◌, None, sym, ap, ◌∙◌, inl, inr, arith}
use Rattle.std.proofs.lemmas.Bool.{cases_eq, eq-eqb}
use Rattle.array_core.specs.Seats.{names}
use Rattle.pool_scan.specs.Choosing.{seat_by}
use Rattle.pool_check.specs.Drives.{seats_by}
use Rattle.pool_check.proofs.Finding.{differs}
use Rattle.pool_check.proofs.checking.seats_of.Goals as goal

pub loop-place-preserved : goal.loop-place-preserved
loop-place-preserved c =
    let place = c.loop-place.place in
    let seats = c.loop-place.seats in
    let said = λ (q : ℕ). if names c.args.gone.now.items q then None else seat_by c.args.state.now c.args.scan.now.disks.items q in
    record {
      each = λ p below.
          c.put_seat.ensures p
          ∙ elim (cases_eq p place) [
            | inl same ↦ ap (λ (b : Bool). if b then c.seat_of.result else seats_by seats p) (eq-eqb p place same) ∙ c.seat_of.ensures ∙ ap said (sym same)
            | inr other ↦ ap (λ (b : Bool). if b then c.seat_of.result else seats_by seats p) (differs p place other) ∙ c.loop-place.invariant.each p (omega (arith, below, other))
          ];
      beyond = λ p past.
          c.put_seat.ensures p
          ∙ ap (λ (b : Bool). if b then c.seat_of.result else seats_by seats p) (differs p place (λ same. (let low = c.loop-place-test.true in omega (arith, past, same, low))))
          ∙ c.loop-place.invariant.beyond p past;
    }
