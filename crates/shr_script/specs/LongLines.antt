-- The first 1102 bytes of a line tell what it says: a line that is longer is none.
use Rattle.std.proofs.Common.{◌≡◌, ℕ, zero, suc, ◌<◌, ◌≤◌, nat_le, lit≤, false, List, [], ◌∷◌, ◌++◌, length, take, Some, refl, sym, ◌∙◌, ap, inl, inr, arith, length-append, length-take, take-take}
use Rattle.std.proofs.lemmas.Bool.{cases_lt}
use Rattle.std.proofs.lemmas.Bool.Decides.{nat_tests}
use Rattle.std.proofs.lemmas.List.{take_all}
use Rattle.std.specs.List.{slice_split}
use Rattle.shr_script.specs.Line.{wrong, is_space, words_line, line_of, longest}
use Rattle.shr_script.specs.Script.{without_return}
use Rattle.shr_script.specs.Reading.{kept_of}

-- a line that is too long is none, whatever its words
words_line-long : (n : ℕ) (words : List (List ℕ)) → longest < n → words_line n words ≡ wrong
words_line-long n [] long = refl
words_line-long n (word ∷ words) long =
    let above : nat_le n longest ≡ false = grind (arith, nat_tests) in
    rw above refl

line_of-long : (bytes : List ℕ) → longest < length bytes → line_of bytes ≡ Some wrong
line_of-long [] long = absurd (omega arith)
line_of-long (b ∷ bytes) long =
    ap Some (words_line-long (length (b ∷ bytes)) (slice_split is_space (b ∷ bytes)) long)

-- two lines that are too long and begin alike
line_of-alike :
    (front xs ys : List ℕ)
    → longest < length front
    → line_of (front ++ xs) ≡ line_of (front ++ ys)
line_of-alike front xs ys long =
    line_of-long (front ++ xs) (simp length-append (omega arith))
    ∙ sym (line_of-long (front ++ ys) (simp length-append (omega arith)))

-- a line without its carriage return begins as the line does
without_return-begins :
    (n : ℕ) (bytes : List ℕ)
    → n < length bytes
    → (rest : List ℕ) × (without_return bytes ≡ take n bytes ++ rest)
without_return-begins zero bytes inside = (without_return bytes, refl)
without_return-begins (suc n) [] inside = absurd (omega arith)
without_return-begins (suc n) (b ∷ []) inside = absurd (omega arith)
without_return-begins (suc n) (b ∷ c ∷ bytes) inside =
    let rest = without_return-begins n (c ∷ bytes) (omega arith) in
    (rest.0, ap (λ xs. b ∷ xs) rest.1)

-- of a line that is too long too
line_of-cut :
    (bytes : List ℕ)
    → 1102 < length bytes
    → line_of (without_return (take 1102 bytes)) ≡ line_of (without_return bytes)
line_of-cut bytes long =
    let kept_long : length (take 1102 bytes) ≡ 1102 = rw length-take (omega arith) in
    let kept = without_return-begins 1101 (take 1102 bytes) (omega arith) in
    let whole = without_return-begins 1101 bytes (omega arith) in
    let front_long : length (take 1101 bytes) ≡ 1101 = rw length-take (omega arith) in
    let fronts : take 1101 (take 1102 bytes) ≡ take 1101 bytes = take-take 1101 1102 bytes (lit≤ tt) in
    ap line_of (kept.1 ∙ ap (λ xs. xs ++ kept.0) fronts)
    ∙ (line_of-alike (take 1101 bytes) kept.0 whole.0 (omega arith)
    ∙ ap line_of (sym whole.1))

-- the bytes of a line that are kept tell what it says
pub line_of-kept : (bytes : List ℕ) → line_of (without_return (kept_of bytes)) ≡ line_of (without_return bytes)
line_of-kept bytes =
    elim (cases_lt 1102 (length bytes)) [
      | inl long ↦ line_of-cut bytes long
      | inr short ↦ ap (λ xs. line_of (without_return xs)) (take_all 1102 bytes short)
    ]
