use Rattle.std.proofs.Common.{◌≡◌, ◌++◌, ◌*◌, ◌-◌, take, replicate}
use Rattle.std.specs.List.{flat_map}
use Rattle.pool_state.specs.Written.{drive_bytes, HaveIds}
use Rattle.pool_state.proofs.writing.drive_table.Given as goal

-- the drives up to here, and zeros
abbrev pub invariant-loop-place : goal.invariant-loop-place
invariant-loop-place l =
    (l.table ≡ flat_map drive_bytes (take l.place l.drives) ++ replicate (28 * (16 - l.place)) 0)
    × HaveIds (take l.place l.drives)
