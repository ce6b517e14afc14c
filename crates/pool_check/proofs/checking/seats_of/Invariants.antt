use Rattle.std.proofs.Common.{◌≡◌, ℕ, ◌<◌, ◌≤◌, if◌then◌else◌, None}
use Rattle.array_core.specs.Seats.{names}
use Rattle.pool_scan.specs.Choosing.{seat_by}
use Rattle.pool_check.specs.Drives.{seats_by}
use Rattle.pool_check.proofs.checking.seats_of.Given as goal

abbrev pub invariant-loop-place : goal.invariant-loop-place
invariant-loop-place l = record {
  each : (p : ℕ) → p < l.place → seats_by l.seats p ≡ (if names l.gone.items p then None else seat_by l.state l.scan.disks.items p);
  beyond : (p : ℕ) → 16 ≤ p → seats_by l.seats p ≡ None;
}
