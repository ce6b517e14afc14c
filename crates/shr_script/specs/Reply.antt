-- The texts of replies: one line each.
use Rattle.std.specs.Prelude.{ℕ, ◌==◌, if◌then◌else◌, List, [], ◌∷◌, ◌++◌, codes, decimal}
use Rattle.hex.specs.Hex.{encode_lower}

-- bytes without the zeros at their end
abbrev pub before_zeros : ℕ → List ℕ → List ℕ
before_zeros b [] = if b == 0 then [] else b ∷ []
before_zeros b (c ∷ bytes) = b ∷ c ∷ bytes

abbrev pub without_zeros : List ℕ → List ℕ
without_zeros [] = []
without_zeros (b ∷ bytes) = before_zeros b (without_zeros bytes)

-- lower-case digits, or a dash for no byte
abbrev pub digits_or_dash : List ℕ → List ℕ
digits_or_dash [] = codes "-"
digits_or_dash (b ∷ bytes) = encode_lower (b ∷ bytes)

-- a text as a line
abbrev pub as_line : List ℕ → List ℕ
as_line text = text ++ 10 ∷ []

-- `data H`
abbrev pub data_line : List ℕ → List ℕ
data_line bytes = codes "data " ++ digits_or_dash (without_zeros bytes) ++ 10 ∷ []

-- `left L`
abbrev pub left_line : ℕ → List ℕ
left_line works = as_line (codes "left " ++ decimal works)

-- `refused WHY`
abbrev pub refused_line : List ℕ → List ℕ
refused_line why = codes "refused " ++ why ++ 10 ∷ []
