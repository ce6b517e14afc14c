use Rattle.std.proofs.Common.{◌≡◌, map, take}
use Rattle.growth_laws.specs.NewArrays.{found_on}
use Rattle.raid_rack.proofs.young.found_for.Given as goal

-- those of the members up to here
abbrev pub invariant-loop-place : goal.invariant-loop-place
invariant-loop-place l = l.found.items ≡ map (found_on l.state l.members.items l.size l.seconds) (take l.place-index l.place-items)
