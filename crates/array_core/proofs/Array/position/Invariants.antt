use Rattle.std.proofs.Common.{◌≡◌, ℕ, ◌<◌}
use Rattle.array_model.specs.View.{place_at}
use Rattle.array_core.proofs.Array.position.Given as goal

abbrev pub invariant-loop-position : goal.invariant-loop-position
invariant-loop-position l = (k : ℕ) → k < l.position → place_at l.self k ≡ l.place → ⊥
