use Rattle.std.proofs.Common.{◌≡◌, ◌<◌, ℕ, true}
use Rattle.reshape_laws.specs.Rows.{counts_in}
use Rattle.array_reshape.proofs.members.absent_in.Given as goal

abbrev pub invariant-loop-position : goal.invariant-loop-position
invariant-loop-position l = (j : ℕ) → j < l.position → counts_in l.array l.row j ≡ true
