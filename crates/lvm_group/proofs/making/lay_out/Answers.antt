use Rattle.std.proofs.Common.{◌<◌, ◌≤◌, List, sym, subst, ◌∙◌, length}
use Rattle.std.specs.List.{AllByRecursion}
use Rattle.lvm_group.specs.declared.runs.Run.{Run}
use Rattle.lvm_group.proofs.NewVolume.{new_arrays, new_short}
use Rattle.lvm_group.proofs.making.lay_out.Goals as goal

pub print_own-requires-clause-arrays : goal.print_own-requires-clause-arrays
print_own-requires-clause-arrays c =
    subst (λ (runs : List Run). AllByRecursion (λ (run : Run). run.array < 16) runs) (sym (c.as_slice.ensures.value ∙ c.grow.ensures.items)) (new_arrays c.args.numbers.now c.requires.few)

pub print_own-requires-clause-short : goal.print_own-requires-clause-short
print_own-requires-clause-short c = subst (λ (runs : List Run). length runs ≤ 1024) (sym (c.as_slice.ensures.value ∙ c.grow.ensures.items)) (new_short c.args.numbers.now c.requires.few)
