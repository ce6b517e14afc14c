use Rattle.std.proofs.Common.{◌≤◌, length, take, All}
use Rattle.growth_plan.specs.declared.ArrayNow.{ArrayNow}
use Rattle.growth_plan.specs.Book.{IsSmall}
use Rattle.engine_tests.proofs.growth.is_book.Given as goal

abbrev pub invariant-loop-array : goal.invariant-loop-array
invariant-loop-array l = record {
  pairs : All (λ (array : ArrayNow). 2 ≤ length array.members.items) (take l.array-index l.array-items);
  small : All IsSmall (take l.array-index l.array-items);
}
