use Rattle.std.proofs.Common.{◌≡◌, take}
use Rattle.pool_rest.proofs.standing.copy_of_drives.Given as goal

abbrev pub invariant-loop-place : goal.invariant-loop-place
invariant-loop-place l = l.copy.items ≡ take l.place l.drives
