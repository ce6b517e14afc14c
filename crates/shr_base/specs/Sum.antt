-- The sum of an md superblock (Linux md, calc_sb_1_csum).
use Rattle.std.specs.Prelude.{ℕ, ◌+◌, ◌/◌, ◌%◌, ◌^◌, List, [], ◌∷◌, sum}
use Rattle.byteorder.specs.Endian.{little_number}

-- the words of 32 bits, each with its lowest byte first, and a half word that is left at the end
abbrev pub words : List ℕ → List ℕ
words (a ∷ b ∷ c ∷ d ∷ rest) = little_number 4 (a ∷ b ∷ c ∷ d ∷ []) ∷ words rest
words (a ∷ b ∷ []) = little_number 2 (a ∷ b ∷ []) ∷ []
words _ = []

-- the high half of 64 bits added to the low half, in 32 bits
abbrev pub folded : ℕ → ℕ
folded total = (total / 2 ^ 32 + total % 2 ^ 32) % 2 ^ 32

-- all words summed in 64 bits, and the halves of that added
abbrev pub md_sum_of : List ℕ → ℕ
md_sum_of bytes = folded (sum (words bytes) % 2 ^ 64)
