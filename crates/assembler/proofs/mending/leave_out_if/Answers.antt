use Rattle.std.proofs.Common.{◌≡◌, ◌==◌, ◌&&◌, Bool, true, false, if◌then◌else◌, None, refl, sym, ap, ◌∙◌, arith}
use Rattle.slice_rack.proofs.Tables.{put_in}
use Rattle.pool_check.specs.Drives.{seats_by}
use Rattle.assembler.proofs.mending.leave_out_if.Goals as goal

and_true : (b : Bool) → (b && true) ≡ b
and_true true = refl
and_true false = refl

and_false : (b : Bool) → (b && false) ≡ false
and_false true = refl
and_false false = refl

pub returns-then-left_out : goal.returns-then-left_out
returns-then-left_out c p =
    let seats = c.args.seats.now in
    put_in seats c.args.place None (omega arith) p
    ∙ sym (ap (λ (b : Bool). if b then None else seats_by seats p) (ap (λ (b : Bool). (p == c.args.place) && b) c.if-left_out.true ∙ and_true (p == c.args.place)))

pub returns-else-left_out : goal.returns-else-left_out
returns-else-left_out c p =
    let seats = c.args.seats.now in
    sym (ap (λ (b : Bool). if b then None else seats_by seats p) (ap (λ (b : Bool). (p == c.args.place) && b) c.if-left_out.false ∙ and_false (p == c.args.place)))
