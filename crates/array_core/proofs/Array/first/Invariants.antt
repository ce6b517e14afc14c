use Rattle.std.proofs.Common.{◌≡◌, None}
use Rattle.array_image.specs.Held.{first_counting}
use Rattle.array_model.proofs.Firsts.{firsts}
use Rattle.array_core.proofs.Array.first.Given as goal

abbrev pub invariant-loop-position : goal.invariant-loop-position
invariant-loop-position l = first_counting l.sector (firsts l.self l.position) ≡ None
