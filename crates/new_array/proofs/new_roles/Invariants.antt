use Rattle.std.proofs.Common.{◌≡◌, map}
use Rattle.std.specs.List.{range_with_len}
use Rattle.new_array.specs.Supers.{role_of}
use Rattle.new_array.proofs.new_roles.Given as goal

-- those of the places up to here
abbrev pub invariant-loop-place : goal.invariant-loop-place
invariant-loop-place l = l.roles.items ≡ map (role_of l.members) (range_with_len 0 l.place)
