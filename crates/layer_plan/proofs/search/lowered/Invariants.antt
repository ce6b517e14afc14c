use Rattle.std.proofs.Common.{◌≡◌, ℕ, ◌+◌, ◌<◌, ◌≤◌, if◌then◌else◌, slice_index}
use Rattle.layer_plan.specs.Search.{is_member}
use Rattle.layer_plan.proofs.search.lowered.Given as goal

abbrev pub invariant-loop-place : goal.invariant-loop-place
invariant-loop-place l = record {
  done : (k : ℕ) → k < 4 → k < l.place → slice_index l.left k + (if is_member l.fn.set k then l.fn.height else 0) ≡ slice_index l.fn.units k;
  later : (k : ℕ) → k < 4 → l.place ≤ k → slice_index l.left k ≡ slice_index l.fn.units k;
}
