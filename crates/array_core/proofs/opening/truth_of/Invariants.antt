use Rattle.std.proofs.Common.{◌≡◌, ◌-◌, map}
use Rattle.std.specs.List.{range_with_len}
use Rattle.std.specs.Option.{option_copied}
use Rattle.array_image.specs.Foremost.{foremost}
use Rattle.array_core.specs.Opening.{super_at}
use Rattle.array_core.proofs.opening.truth_of.Given as goal

abbrev pub invariant-loop-after : goal.invariant-loop-after
invariant-loop-after l = option_copied l.truth ≡ foremost (λ t. t.events) (map (super_at l.found) (range_with_len (16 - l.after) l.after))
