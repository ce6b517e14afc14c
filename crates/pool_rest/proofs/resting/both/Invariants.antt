use Rattle.std.proofs.Common.{◌≡◌, ◌<◌, ◌≤◌, ◌||◌, ℕ, true, length}
use Rattle.log_laws.specs.View.{names}
use Rattle.pool_rest.proofs.resting.both.Given as goal

abbrev pub invariant-loop-place : goal.invariant-loop-place
invariant-loop-place l = record {
  count : length l.places.items ≤ l.place;
  each : (p : ℕ) → p < l.place → names l.places.items p ≡ (names l.first.items p || names l.second.items p);
  few : (p : ℕ) → names l.places.items p ≡ true → p < l.place;
}
