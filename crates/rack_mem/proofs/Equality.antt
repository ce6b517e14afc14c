-- Tests of equality on numbers.
use Rattle.std.proofs.Common.{◌≡◌, ℕ, ◌==◌, arith}
use Rattle.std.proofs.lemmas.Bool.Decides.{nat_tests}

-- a test of equality goes both ways
pub eqb_comm : (a b : ℕ) → (a == b) ≡ (b == a)
eqb_comm a b = grind (arith, nat_tests)
