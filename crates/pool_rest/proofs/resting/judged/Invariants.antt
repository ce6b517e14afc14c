use Rattle.std.proofs.Common.{◌≡◌, ◌<◌, ◌≤◌, ℕ, true, length}
use Rattle.log_laws.specs.View.{names}
use Rattle.pool_scan.specs.Choosing.{seat_by}
use Rattle.pool_rest.proofs.resting.judged.Given as goal

abbrev pub invariant-loop-place : goal.invariant-loop-place
invariant-loop-place l = record {
  few : length l.places.items ≤ l.place;
  each : (p : ℕ) → names l.places.items p ≡ true
      → (names l.on.items p ≡ true) × (seat_by l.before l.scan.disks.items p ≡ seat_by l.state l.scan.disks.items p);
  all : (p : ℕ) → p < l.place → names l.on.items p ≡ true → seat_by l.before l.scan.disks.items p ≡ seat_by l.state l.scan.disks.items p
      → names l.places.items p ≡ true;
}
