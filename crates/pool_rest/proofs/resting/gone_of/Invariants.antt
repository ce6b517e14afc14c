use Rattle.std.proofs.Common.{◌≡◌, ◌⊎◌, ◌<◌, ◌≤◌, ℕ, true, length, Some}
use Rattle.log_laws.specs.View.{names}
use Rattle.pool_scan.specs.Choosing.{seat_by}
use Rattle.pool_rest.specs.Resting.{IsFlagged}
use Rattle.pool_rest.proofs.resting.gone_of.Given as goal

abbrev pub invariant-loop-place : goal.invariant-loop-place
invariant-loop-place l = record {
  few : length l.places.items ≤ l.place;
  each : (p d : ℕ) → names l.places.items p ≡ true → seat_by l.state l.scan.disks.items p ≡ Some d
      → (names l.gone.items p ≡ true) ⊎ IsFlagged l.scan.disks.items d;
  all : (p d : ℕ) → p < l.place → seat_by l.state l.scan.disks.items p ≡ Some d → IsFlagged l.scan.disks.items d → names l.places.items p ≡ true;
}
