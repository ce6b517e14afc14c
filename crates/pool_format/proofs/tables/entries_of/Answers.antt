use Rattle.std.proofs.Common.{◌+◌, ◌<◌, ◌^◌, subst, sym, arith}
use Rattle.pool_format.specs.declared.planning.NewArray.{NewArray}
use Rattle.pool_format.proofs.tables.entries_of.Goals as goal

pub overflow_add-array : goal.overflow_add-array
overflow_add-array c =
    let low = subst (λ (a : NewArray). a.first + (a.size + 2048) < 2 ^ 62) (sym c.index-arrays-number.is) (c.requires.room c.loop-number.number _ c.loop-number-test.true) in
    omega (arith, low)

pub entry_of-requires-then-has_member-clause-room : goal.entry_of-requires-then-has_member-clause-room
entry_of-requires-then-has_member-clause-room c =
    let low = subst (λ (a : NewArray). a.first + (a.size + 2048) < 2 ^ 62) (sym c.index-arrays-number.is) (c.requires.room c.loop-number.number _ c.loop-number-test.true) in
    omega (arith, low)
