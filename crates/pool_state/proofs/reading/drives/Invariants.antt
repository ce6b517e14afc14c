use Rattle.std.proofs.Common.{◌≡◌, map}
use Rattle.std.specs.List.{range_with_len}
use Rattle.pool_state.specs.Sector.{drive_at}
use Rattle.pool_state.proofs.reading.drives.Given as goal

-- the drives up to here
abbrev pub invariant-loop-place : goal.invariant-loop-place
invariant-loop-place l = l.drives.items ≡ map (λ place. drive_at place l.bytes) (range_with_len 0 l.place)
