use Rattle.std.proofs.Common.{◌≡◌, ◌-◌, drop, length}
use Rattle.std.specs.Option.{option_copied}
use Rattle.lvm_group.specs.Opening.{group_by}
use Rattle.lvm_group.proofs.opening.highest.Given as goal

abbrev pub invariant-loop-after : goal.invariant-loop-after
invariant-loop-after l = option_copied l.found ≡ group_by (drop (length l.parts - l.after) l.parts)
