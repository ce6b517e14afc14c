use Rattle.std.proofs.Common.{◌≡◌, ◌-◌, false, length}
use Rattle.std.specs.Prelude.{slice_get}
use Rattle.std.specs.Option.{option_map_or}
use Rattle.std.specs.List.{find, range_with_len}
use Rattle.lvm_group.specs.Opening.{first_bad_with, is_bad_with}
use Rattle.lvm_group.proofs.opening.first_bad.Given as goal

abbrev pub invariant-loop-array : goal.invariant-loop-array
invariant-loop-array l =
    find (λ array. option_map_or (is_bad_with l.pool.0 l.pvs array) (slice_get l.parts array) false) (range_with_len l.array (length l.parts - l.array))
    ≡ first_bad_with l.pool.0 l.pvs l.parts
