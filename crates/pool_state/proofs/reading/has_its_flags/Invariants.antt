use Rattle.std.proofs.Common.{◌≡◌, true}
use Rattle.pool_state.specs.Sector.{has_flags}
use Rattle.pool_state.proofs.reading.has_its_flags.Given as goal

-- the flags up to here are 0 or 1
abbrev pub invariant-loop-place : goal.invariant-loop-place
invariant-loop-place l = has_flags l.place l.bytes ≡ true
