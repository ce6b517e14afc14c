-- Bytes of a reader or a writer of the standard library, which it may keep to itself.
use Rattle.std.specs.Prelude.{ℕ, List, [], Option, IsSome, unwrap_or}

-- the bytes are known
abbrev pub IsKnown : Option (List ℕ) → Type 0
IsKnown = IsSome

-- the known bytes
abbrev pub bytes_of : Option (List ℕ) → List ℕ
bytes_of known = unwrap_or known []
