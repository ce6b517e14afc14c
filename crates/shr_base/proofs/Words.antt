-- The words of a list of bytes, from the front.
use Rattle.std.proofs.Common.{◌≡◌, ℕ, ◌+◌, ◌≤◌, List, [], ◌∷◌, length, take, drop, sum, refl, ap, sym, ◌∙◌, arith}
use Rattle.std.proofs.lemmas.List.Sums.{sum_by-cons}
use Rattle.byteorder.specs.Endian.{little_number}
use Rattle.shr_base.specs.Sum.{words}

-- four bytes or more begin with a word
words-whole : (bytes : List ℕ) → 4 ≤ length bytes → words bytes ≡ little_number 4 (take 4 bytes) ∷ words (drop 4 bytes)
words-whole (a ∷ b ∷ c ∷ d ∷ rest) long = refl
words-whole (a ∷ b ∷ c ∷ []) long = absurd (omega arith)
words-whole (a ∷ b ∷ []) long = absurd (omega arith)
words-whole (a ∷ []) long = absurd (omega arith)
words-whole [] long = absurd (omega arith)

-- the first word and the others make the sum
pub sum-words : (word after bytes : List ℕ) → word ≡ take 4 bytes → after ≡ drop 4 bytes → length after + 4 ≡ length bytes
    → sum (words bytes) ≡ little_number 4 word + sum (words after)
sum-words word after bytes front back long =
    ap sum (words-whole bytes (omega arith))
    ∙ sum_by-cons (λ x. x) (little_number 4 (take 4 bytes)) (words (drop 4 bytes))
    ∙ ap (λ (xs : List ℕ). little_number 4 xs + sum (words (drop 4 bytes))) (sym front)
    ∙ ap (λ (xs : List ℕ). little_number 4 word + sum (words xs)) (sym back)
