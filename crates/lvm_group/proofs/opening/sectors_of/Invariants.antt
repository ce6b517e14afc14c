use Rattle.std.proofs.Common.{◌≡◌, map}
use Rattle.std.specs.List.{range_with_len}
use Rattle.lvm_group.proofs.opening.sectors_of.Given as goal

abbrev pub invariant-loop-array : goal.invariant-loop-array
invariant-loop-array g l = l.sizes.items ≡ map (g.R.Rack.seen l.rack).sectors (range_with_len 0 l.array)
