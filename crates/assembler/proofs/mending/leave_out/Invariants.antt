use Rattle.std.proofs.Common.{◌≡◌, ℕ, ◌<◌, ◌≤◌, if◌then◌else◌, None}
use Rattle.log_laws.specs.View.{names}
use Rattle.pool_check.specs.Drives.{seats_by}
use Rattle.assembler.proofs.mending.leave_out.Given as goal

abbrev pub invariant-loop-place : goal.invariant-loop-place
invariant-loop-place l = record {
  each : (p : ℕ) → p < l.place → seats_by l.seats p ≡ (if names l.gone.items p then None else seats_by l.initial.seats p);
  later : (p : ℕ) → l.place ≤ p → seats_by l.seats p ≡ seats_by l.initial.seats p;
}
