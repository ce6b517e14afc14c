use Rattle.std.proofs.Common.{◌≡◌, ◌+◌, ◌*◌, ◌∙◌, sym, subst, arith}
use Rattle.std.proofs.lemmas.Option.{slice_get_past}
use Rattle.slice_rack.specs.SliceRack.{tables, below_of}
use Rattle.pool_format.specs.Slices.{AreLaid}
use Rattle.pool_format.proofs.Laying.{member_inside}
use Rattle.pool_format.proofs.Slicing.{laid_skip, member_added, none_planned, other_planned}
use Rattle.pool_format.proofs.slices.lay_member.Goals as goal

pub returns-then-number-len-clause-laid : goal.returns-then-number-len-clause-laid
returns-then-number-len-clause-laid g c =
    let arrays = c.args.plan.now.arrays.items in
    let next : 17 * c.args.place + c.args.number + 1 + 1 ≡ 17 * c.args.place + c.args.number + 2 = omega arith in
    subst (λ k. AreLaid arrays (c.args.place + 1) k (tables c.args.slices.now)) next
    (laid_skip arrays (c.args.place + 1) (17 * c.args.place + c.args.number + 1) (tables c.args.slices.now) c.requires.laid
    (none_planned arrays c.args.place c.args.number c.requires.number (slice_get_past arrays c.args.number (omega (arith, c.if-number-len.true, c.len.ensures.value)))))

pub overflow_add-array : goal.overflow_add-array
overflow_add-array g c =
    let in_it = member_inside c.args.plan.now (g.R.Rack.seen (below_of c.args.slices.now)) c.requires.plan c.requires.room c.args.number c.args.place c.array_at-array.result.now
    c.array_at-array.ensures (sym c.has_member.ensures ∙ c.if-has_member.true) in
    omega (arith, in_it.fits, in_it.small)

pub returns-then-has_member-clause-laid : goal.returns-then-has_member-clause-laid
returns-then-has_member-clause-laid g c =
    let a = c.array_at-array.result.now in
    member_added c.args.plan.now (g.R.Rack.seen (below_of c.args.slices.now)) c.requires.plan c.requires.room c.args.place c.requires.place c.args.number a
    c.array_at-array.ensures (sym c.has_member.ensures ∙ c.if-has_member.true) (tables c.args.slices.now) (tables c.add_slice.new.self) c.add_slice.result c.requires.laid
    c.add_slice.ensures.unseated c.add_slice.ensures.outside c.add_slice.ensures.overlap c.add_slice.ensures.added

pub returns-else-has_member-clause-laid : goal.returns-else-has_member-clause-laid
returns-else-has_member-clause-laid g c =
    let arrays = c.args.plan.now.arrays.items in
    let next : 17 * c.args.place + c.args.number + 1 + 1 ≡ 17 * c.args.place + c.args.number + 2 = omega arith in
    subst (λ k. AreLaid arrays (c.args.place + 1) k (tables c.args.slices.now)) next
    (laid_skip arrays (c.args.place + 1) (17 * c.args.place + c.args.number + 1) (tables c.args.slices.now) c.requires.laid
    (other_planned arrays c.args.place c.args.number c.requires.number c.array_at-array.result.now c.array_at-array.ensures (sym c.has_member.ensures ∙ c.if-has_member.false)))
