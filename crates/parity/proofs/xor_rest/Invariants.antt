use Rattle.std.proofs.Common.{◌≡◌, ◌<◌, ◌≤◌, ℕ, get_or, bit_xor}
use Rattle.parity.proofs.xor_rest.Given as goal

pub record Rest (at i : ℕ) (old b now : Rattle.std.proofs.Common.List ℕ) : Type 0 where
  pub xored : (k : ℕ) → at ≤ k → k < i → get_or now k 0 ≡ bit_xor (get_or old k 0) (get_or b k 0)
  pub below : (k : ℕ) → k < at → get_or now k 0 ≡ get_or old k 0
  pub above : (k : ℕ) → i ≤ k → get_or now k 0 ≡ get_or old k 0

abbrev pub invariant-loop-i : goal.invariant-loop-i
invariant-loop-i l = Rest l.at l.i l.fn.a l.b l.a
