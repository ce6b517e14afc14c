use Rattle.std.proofs.Common.{◌≡◌, ◌≢◌, ℕ, Bool, ◌&&◌, if◌then◌else◌, Option, None, sym, ap, ap₂, ◌∙◌, inl, inr, arith}
use Rattle.std.proofs.lemmas.Bool.{cases_eq, eq-eqb, ne_eqb}
use Rattle.log_laws.specs.View.{names}
use Rattle.pool_check.specs.Drives.{seats_by}
use Rattle.assembler.proofs.mending.leave_out.Goals as goal

pub loop-place-preserved : goal.loop-place-preserved
loop-place-preserved c =
    let place = c.loop-place.place in
    let seats = c.loop-place.seats in
    let out = c.is_listed.result in
    let old = c.loop-place.invariant in
    let other : (p : ℕ) → p ≢ place → seats_by c.leave_out_if.new.seats p ≡ seats_by seats p =
    λ p apart. c.leave_out_if.ensures p ∙ ap (λ (b : Bool). if b && out then None else seats_by seats p) (ne_eqb p place apart) in
    record {
      each = λ p below. elim (cases_eq p place) [
        | inl same ↦
            c.leave_out_if.ensures p ∙ ap (λ (b : Bool). if b && out then None else seats_by seats p) (eq-eqb p place same)
            ∙ ap₂ (λ (b : Bool) (o : Option ℕ). if b then None else o) (c.is_listed.ensures ∙ ap (names c.args.gone.now.items) (sym same)) (old.later p (omega (arith, same)))
        | inr apart ↦ other p apart ∙ old.each p (omega (arith, below, apart))
      ];
      later = λ p least. other p (λ same. omega (arith, least, same)) ∙ old.later p (omega (arith, least));
    }
