-- A sector is full, or the input ended in it.
use Rattle.std.proofs.Common.{◌≡◌, ◌++◌, length, take, sym, ◌∙◌, ap, arith}
use Rattle.std.proofs.lemmas.List.{length-take-le, take_all}
use Rattle.shr_tool.specs.Importing.{filled_up}
use Rattle.shr_tool.proofs.Pieces.{full_sector, full_up, last_sector, none_after}
use Rattle.shr_tool.proofs.importing.take_sector.Goals as goal

pub returns-in-Ok-eq0-clause-taken : goal.returns-in-Ok-eq0-clause-taken
returns-in-Ok-eq0-clause-taken g c =
    λ told.
    let left = g.I.Source.left in
    let filled = c.loop-filled.filled in
    let before = c.loop-filled.into in
    let into = c.take_behind.new.into in
    let rest = left c.take_behind.new.input in
    let few = c.loop-filled.invariant.few in
    let was : length before ≡ 512 = c.loop-filled.invariant.long in
    let long : length into ≡ 512 = c.take_behind.array_long in
    let told_now = c.loop-filled.invariant.told told in
    let zero = c.in-Ok-eq0.field-0-test in
    let same : take filled before ++ left c.loop-filled.input ≡ take filled into ++ rest =
    c.in-Ok-eq0.ensures.taken told_now ∙ ap (λ n. take n into ++ rest) (omega arith) in
    let count : length (take filled into) ≡ filled = length-take-le filled into (omega arith) in
    let counted : length (take filled into) ≡ length (take filled before) = ap length c.in-Ok-eq0.ensures.same in
    let none = none_after _ _ _ _ same counted ((c.in-Ok-eq0.ensures.end told_now).0 zero) in
    let taken = last_sector _ (take filled into) rest (c.loop-filled.invariant.taken told ∙ same) (omega arith) none in
    (sym (ap length taken.0 ∙ count), c.fill_up.ensures ∙ ap filled_up (sym taken.0), taken.1)

pub returns-clause-taken : goal.returns-clause-taken
returns-clause-taken g c =
    λ told.
    let into = c.loop-filled.into in
    let long : length into ≡ 512 = c.loop-filled.invariant.long in
    let few = c.loop-filled.invariant.few in
    let all = c.loop-filled-test.false in
    let full : c.loop-filled.filled ≡ 512 = omega arith in
    let whole : take c.loop-filled.filled into ≡ into = take_all c.loop-filled.filled into (omega arith) in
    let taken = full_sector _ into _ (c.loop-filled.invariant.taken told ∙ ap (λ xs. xs ++ g.I.Source.left c.loop-filled.input) whole) long in
    (full ∙ sym (ap length taken.0 ∙ long), full_up into long ∙ ap filled_up (sym taken.0), taken.1)
