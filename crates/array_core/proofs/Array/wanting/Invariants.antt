use Rattle.std.proofs.Common.{◌≡◌, ◌≤◌}
use Rattle.array_image.specs.Spent.{wanting}
use Rattle.array_model.proofs.Firsts.{firsts}
use Rattle.array_core.proofs.Array.wanting.Given as goal

abbrev pub invariant-loop-position : goal.invariant-loop-position
invariant-loop-position l = (l.wanting ≤ l.position) × (l.wanting ≡ wanting l.sector (firsts l.self l.position))
