-- Fields of fixed width in a sector.
use Rattle.std.specs.Prelude.{ℕ, ◌-◌, ◌<◌, List, ◌++◌, length, drop, replicate}
use Rattle.std.specs.List.{AllByRecursion}
use Rattle.byteorder.specs.Endian.{little_number}

-- the number in the n bytes from an offset on, its lowest byte first
abbrev pub number_at : ℕ → ℕ → List ℕ → ℕ
number_at n offset bytes = little_number n (drop offset bytes)

-- a text, and zeros up to the size
unfoldable pub padded : ℕ → List ℕ → List ℕ
padded size text = text ++ replicate (size - length text) 0

-- each is a byte
abbrev pub AreBytes : List ℕ → Type 0
AreBytes bytes = AllByRecursion (λ (byte : ℕ). byte < 256) bytes
