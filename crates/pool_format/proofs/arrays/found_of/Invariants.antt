use Rattle.std.proofs.Common.{◌≡◌, map, take, Some}
use Rattle.pool_format.specs.Parts.{new_super}
use Rattle.pool_format.proofs.arrays.found_of.Given as goal

-- those of the members up to here
abbrev pub invariant-loop-index : goal.invariant-loop-index
invariant-loop-index l =
    l.found.items ≡ map (λ place. record { place = place; seen = Some (new_super l.birth l.array l.number place) }) (take l.index l.array.members.items)
