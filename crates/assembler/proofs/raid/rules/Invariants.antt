use Rattle.std.proofs.Common.{◌≡◌, ◌<◌, ℕ, Some}
use Rattle.std.specs.Prelude.{slice_get}
use Rattle.array_model.specs.View.{View, IsArray}
use Rattle.assembler.proofs.raid.rules.Given as goal

abbrev pub invariant-loop-number : goal.invariant-loop-number
invariant-loop-number l = (n : ℕ) (v : View) → n < l.number → slice_get l.arrays n ≡ Some v → IsArray v
