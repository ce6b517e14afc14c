use Rattle.std.proofs.Common.{◌≡◌, ◌≤◌, filter, take, length}
use Rattle.std.specs.Prelude.{is_none}
use Rattle.pool_check.specs.Drives.{seats_by}
use Rattle.assembler.proofs.checks.absent_of.Given as goal

abbrev pub invariant-loop-place : goal.invariant-loop-place
invariant-loop-place l = record {
  made : l.places.items ≡ filter (λ p. is_none (seats_by l.seats p)) (take l.place-index l.place-items);
  few : length l.places.items ≤ l.place-index;
}
