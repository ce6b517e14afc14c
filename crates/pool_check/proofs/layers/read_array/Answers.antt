use Rattle.std.proofs.Common.{◌<◌, ◌^◌, sym, subst, ◌∙◌}
use Rattle.pool_check.specs.Drives.{found_with, seats_by}
use Rattle.pool_check.specs.Founded.{HasContents}
use Rattle.pool_check.specs.Layers.{IsNext}
use Rattle.pool_check.proofs.Begins.{unknown_far}
use Rattle.pool_check.proofs.layers.read_array.Goals as goal

pub returns-in_default-clause-layers : goal.returns-in_default-clause-layers
returns-in_default-clause-layers g c o are old =
    let seats = seats_by c.args.seats.now in
    let f = found_with c.args.state.now seats o in
    let unknown =
    unknown_far f c.args.number c.requires.few
    (λ place d seat. subst (λ n. n < 2 ^ 48) (sym (are.sectors place d seat)) (c.requires.seating.small d (c.requires.seating.inside place d seat)))
    (subst (IsNext f c.args.number) c.in_default.is old.next) in
    c.add_unknown.ensures.layers f unknown.truth unknown.extent unknown.next old

pub returns-in-Ok-clause-layers : goal.returns-in-Ok-clause-layers
returns-in-Ok-clause-layers g c o are old =
    let seats = seats_by c.args.seats.now in
    let f = found_with c.args.state.now seats o in
    let next = subst (IsNext f c.args.number) c.in-Some.is old.next in
    c.add_array.ensures.layers seats o (c.as_slice.ensures.value ∙ c.in-Ok.ensures.found o are) next.0
    (record { few = c.requires.state.few; current = c.requires.seating.current }) old

pub add_array-requires-clause-past : goal.add_array-requires-clause-past
add_array-requires-clause-past g c = c.requires.kept.behind_all c.in-Some.first c.in-Some.is

pub returns-in_default-clause-founded : goal.returns-in_default-clause-founded
returns-in_default-clause-founded g c old = c.add_unknown.ensures.founded c.args.state.now (seats_by c.args.seats.now)

pub returns-in-Ok-clause-founded : goal.returns-in-Ok-clause-founded
returns-in-Ok-clause-founded g c old =
    let s = c.args.state.now in
    let seats = seats_by c.args.seats.now in
    c.add_array.ensures.founded seats (subst (HasContents s seats c.args.number 16) (sym c.as_slice.ensures.value) c.in-Ok.ensures.contents) old
