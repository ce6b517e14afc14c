use Rattle.std.proofs.Common.{◌≡◌, length}
use Rattle.pool_scan.proofs.Scan.blank.Given as goal

abbrev pub invariant-loop : goal.invariant-loop
invariant-loop l = length l.room.items ≡ l.counter
