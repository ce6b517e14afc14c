use Rattle.std.proofs.Common.{◌<◌, ◌≤◌, ◌+◌, ℕ}
use Rattle.array_tests.proofs.runs.has_slices.Given as goal

abbrev pub invariant-loop-slice : goal.invariant-loop-slice
invariant-loop-slice g l = (d : ℕ) → d < l.slice → 2048 + l.array.truth.size ≤ (g.R.Rack.seen l.rack).sectors d
