use Rattle.std.proofs.Common.{◌≡◌, map, slice_index}
use Rattle.std.specs.List.{range_with_len}
use Rattle.pool_format.specs.Parts.{new_drive}
use Rattle.pool_format.proofs.states.new_drives.Given as goal

-- those of the places up to here
abbrev pub invariant-loop-place : goal.invariant-loop-place
invariant-loop-place l = l.drives.items ≡ map (λ place. new_drive l.birth place (slice_index l.units place)) (range_with_len 0 l.place)
