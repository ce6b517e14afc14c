use Rattle.std.proofs.Common.{◌≡◌, ◌<◌, ℕ, false}
use Rattle.sync_laws.specs.Rows.{is_source}
use Rattle.array_sync.proofs.rows.made_at.Given as goal

abbrev pub invariant-loop-position : goal.invariant-loop-position
invariant-loop-position l =
    (j : ℕ) → j < l.position → is_source l.fn.array l.sector j ≡ false → (j ≡ l.made) × (is_source l.fn.array l.sector l.made ≡ false)
