use Rattle.std.proofs.Common.{◌≡◌, ◌<◌, ◌*◌, ℕ, slice_index}
use Rattle.log_tests.proofs.disks.are_logs.Given as goal

abbrev pub invariant-loop-place : goal.invariant-loop-place
invariant-loop-place g l =
    (j : ℕ) → j < l.place-index → (slice_index l.on j < 16) × ((g.R.Rack.seen l.rack).sectors (17 * slice_index l.on j) ≡ 8192)
