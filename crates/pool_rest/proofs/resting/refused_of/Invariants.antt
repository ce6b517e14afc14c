use Rattle.std.proofs.Common.{◌≡◌, ◌≤◌, ℕ, true, length, Some}
use Rattle.log_laws.specs.View.{names}
use Rattle.pool_scan.specs.Choosing.{seat_by}
use Rattle.pool_rest.specs.Resting.{HasRefused}
use Rattle.pool_rest.proofs.resting.refused_of.Given as goal

abbrev pub invariant-loop-place : goal.invariant-loop-place
invariant-loop-place l = record {
  few : length l.places.items ≤ l.place;
  each : (p d : ℕ) → names l.places.items p ≡ true → seat_by l.state l.scan.disks.items p ≡ Some d
      → HasRefused l.refused.scan.disks.items l.refused.before l.refused.gone.items l.refused.seated l.refused.lost.items d;
}
