use Rattle.std.proofs.Common.{◌≡◌, ◌∷◌}
use Rattle.std.specs.Prelude.{replicate}
use Rattle.array_core.proofs.blank.blank_roles.Given as goal

abbrev pub invariant-loop-place : goal.invariant-loop-place
invariant-loop-place l = l.roles.items ≡ 0 ∷ 1 ∷ replicate l.place 0xffff
