-- Calls that fail in memory, and the count of them.
use Rattle.std.specs.Prelude.{ℕ, zero, suc, ◌+◌, ◌^◌, ◌-◌, min, Option, None, Some}

-- one fault more, in a count of 64 bits that stands still at its last value
abbrev pub one_more : ℕ → ℕ
one_more faults = min (faults + 1) (2 ^ 64 - 1)

-- of the calls before the one that fails, those after one call more
abbrev pub after_call : Option ℕ → Option ℕ
after_call None = None
after_call (Some zero) = None
after_call (Some (suc calls)) = Some calls
