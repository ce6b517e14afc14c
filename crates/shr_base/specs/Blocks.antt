-- Fields at fixed places of a block of bytes.
use Rattle.std.specs.Prelude.{ℕ, ℤ, ◌+◌, ◌*◌, List, [], ◌∷◌, ◌++◌, map, take, drop}
use Rattle.std.specs.Int.{w32, cast_signed}
use Rattle.std.specs.List.{range_with_len}
use Rattle.byteorder.specs.Endian.{little_number}

-- the bytes of a field, by its first byte and its width
unfoldable pub bytes_at : ℕ → ℕ → List ℕ → List ℕ
bytes_at offset width block = take width (drop offset block)

-- the number in a field, its lowest byte first
unfoldable pub number_at : ℕ → ℕ → List ℕ → ℕ
number_at offset width block = little_number width (bytes_at offset width block)

-- the number of 32 bits in a field, with a sign
abbrev pub signed_at : ℕ → List ℕ → ℤ
signed_at offset block = cast_signed w32 (number_at offset 4 block)

-- the numbers in a row of fields of one width
abbrev pub numbers_at : ℕ → ℕ → ℕ → List ℕ → List ℕ
numbers_at offset width count block = map (λ k. number_at (offset + width * k) width block) (range_with_len 0 count)

-- the block with a field written
unfoldable pub put_at : ℕ → ℕ → List ℕ → List ℕ → List ℕ
put_at offset width bytes block = take offset block ++ (bytes ++ drop (offset + width) block)

-- a field and what is written there
pub record Write : Type 0 where
  pub offset : ℕ
  pub width : ℕ
  pub bytes : List ℕ

-- the block with some fields written, the first of them first
abbrev pub put_all : List Write → List ℕ → List ℕ
put_all [] block = block
put_all (field ∷ fields) block = put_all fields (put_at field.offset field.width field.bytes block)
