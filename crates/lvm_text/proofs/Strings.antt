-- Reading a string byte by byte, as a loop does.
use Rattle.std.proofs.Common.{ℕ, List, ◌++◌, Result, Ok}
use Rattle.lvm_text.specs.Words.{◌>>=◌}

-- what was read before, and what is still read
abbrev pub with_front : List ℕ → Result (List ℕ × List ℕ) ℕ → Result (List ℕ × List ℕ) ℕ
with_front front read = read >>= λ (x : List ℕ × List ℕ). Ok (front ++ x.0, x.1)
