-- A name is refused, or the image is attached and examined.
use Rattle.std.proofs.Common.{◌<◌, ℕ, sym, subst, string_bytes, refl, rules}
use Rattle.std.proofs.lemmas.List.{length-map}
use Rattle.shr_tool.specs.Examining.{shown, cut, gone, no_memory, examined, name_refused}
use Rattle.shr_tool.proofs.Examined.{examined_by, memory_said, said_shown}
use Rattle.shr_tool.proofs.examining.examine_image.Goals as goal

pub returns-in-Err-clause-outcome : goal.returns-in-Err-clause-outcome
returns-in-Err-clause-outcome g c =
    λ sink. name_refused (record { number = _; fault = _; cause = c.in-Err.ensures.unattached; says = c.refuse_name.ensures.says sink })

pub returns-in-Ok-examine-clause-outcome : goal.returns-in-Ok-examine-clause-outcome
returns-in-Ok-examine-clause-outcome g c =
    λ sink.
    let some = subst (λ (n : ℕ). 0 < n) (sym (length-map c.args.names.now string_bytes)) c.requires.some in
    examined (examined_by _ _ _ _ _ _ _ _ _ _ _ c.in-Ok.ensures.attached some (g.met.B.Bay.unspent c.examine.new.bay) sink c.in-Ok-examine.ensures
    (λ lines put. shown refl put) tt (search rules))

pub returns-in-Err-Sink-clause-outcome : goal.returns-in-Err-Sink-clause-outcome
returns-in-Err-Sink-clause-outcome g c =
    λ sink.
    let some = subst (λ (n : ℕ). 0 < n) (sym (length-map c.args.names.now string_bytes)) c.requires.some in
    examined (examined_by _ _ _ _ _ _ _ _ _ _ _ c.in-Ok.ensures.attached some (g.met.B.Bay.unspent c.examine.new.bay) sink (rw c.in-Err-Sink.field-0-is at c.in-Err-Sink.ensures)
    (λ lines put. cut refl put) tt (search rules))

pub returns-in-Err-Gone-clause-outcome : goal.returns-in-Err-Gone-clause-outcome
returns-in-Err-Gone-clause-outcome g c =
    λ sink.
    let some = subst (λ (n : ℕ). 0 < n) (sym (length-map c.args.names.now string_bytes)) c.requires.some in
    let shows = rw c.in-Err-Gone.field-0-is at c.in-Err-Gone.ensures in
    examined (examined_by _ _ _ _ _ _ _ _ _ _ _ c.in-Ok.ensures.attached some (g.met.B.Bay.unspent c.examine.new.bay) sink shows
    (λ lines put. gone _ put (c.refuse.ensures.says (shows.told sink))) (said_shown _ _ _ _ _ tt (c.refuse.ensures.says (shows.told sink))) (λ e. shows.gone refl))

pub returns-in-Err-Memory-clause-outcome : goal.returns-in-Err-Memory-clause-outcome
returns-in-Err-Memory-clause-outcome g c =
    λ sink.
    let some = subst (λ (n : ℕ). 0 < n) (sym (length-map c.args.names.now string_bytes)) c.requires.some in
    let shows = rw c.in-Err-Memory.field-0-is at c.in-Err-Memory.ensures in
    let says = c.refuse-in-Err-Memory.ensures.says (shows.told sink) in
    examined (examined_by _ _ _ _ _ _ _ _ _ _ _ c.in-Ok.ensures.attached some (g.met.B.Bay.unspent c.examine.new.bay) sink shows
    (λ lines put. no_memory _ put says) (said_shown _ _ _ _ _ tt says) (λ e. absurd (memory_said _ _ _ _ says e)))
