-- Laws of bytes without the zeros at their end, byte by byte from the end.
use Rattle.std.proofs.Common.{◌≡◌, ◌≢◌, ℕ, zero, suc, ◌-◌, ◌<◌, ◌≤◌, false, ◌==◌, List, [], ◌∷◌, ◌++◌, length, take, drop, replicate, get_or, ◌+◌, add-one, refl, sym, ◌∙◌, ap, subst, arith}
use Rattle.std.proofs.lemmas.Bool.Decides.{nat_tests}
use Rattle.std.proofs.lemmas.List.{get_or-drop, get_or-replicate, get_or-take, take_more}
use Rattle.shr_script.specs.Reply.{without_zeros, before_zeros}

-- a zero at the end is left out
without_zeros-zero : (xs : List ℕ) → without_zeros (xs ++ 0 ∷ []) ≡ without_zeros xs
without_zeros-zero [] = refl
without_zeros-zero (x ∷ xs) = ap (before_zeros x) (without_zeros-zero xs)

-- bytes that end with another one stay
before_zeros-some : (x b : ℕ) (xs : List ℕ) → before_zeros x (xs ++ b ∷ []) ≡ x ∷ (xs ++ b ∷ [])
before_zeros-some x b [] = refl
before_zeros-some x b (y ∷ xs) = refl

without_zeros-last : (xs : List ℕ) (b : ℕ) → (b == 0) ≡ false → without_zeros (xs ++ b ∷ []) ≡ xs ++ b ∷ []
without_zeros-last [] b other = rw other refl
without_zeros-last (x ∷ xs) b other =
    ap (before_zeros x) (without_zeros-last xs b other) ∙ before_zeros-some x b xs

-- the bytes up to the count are those up to the one before it, and one more
pub take-last :
    (bytes : List ℕ) (count : ℕ)
    → 0 < count
    → count ≤ length bytes
    → take count bytes ≡ take (count - 1) bytes ++ get_or bytes (count - 1) 0 ∷ []
take-last bytes zero some within = absurd (omega arith)
take-last bytes (suc count) some within =
    let less : suc count - 1 ≡ count = omega arith in
    rw (less, ← add-one) (take_more bytes count 0 (omega arith))

-- a zero below the count
pub trimmed-zero :
    (bytes : List ℕ) (count : ℕ)
    → 0 < count
    → count ≤ length bytes
    → get_or bytes (count - 1) 0 ≡ 0
    → without_zeros (take count bytes) ≡ without_zeros bytes
    → without_zeros (take (count - 1) bytes) ≡ without_zeros bytes
trimmed-zero bytes count some within is_zero same =
    let last = take-last bytes count some within in
    let dropped : take count bytes ≡ take (count - 1) bytes ++ 0 ∷ [] =
    subst (λ b. take count bytes ≡ take (count - 1) bytes ++ b ∷ []) is_zero last in
    sym (without_zeros-zero (take (count - 1) bytes)) ∙ (ap without_zeros (sym dropped) ∙ same)

-- zeros below the count
pub trimmed-zeros :
    (bytes : List ℕ) (count many : ℕ)
    → many ≤ count
    → count ≤ length bytes
    → ((k : ℕ) → count - many ≤ k → k < count → get_or bytes k 0 ≡ 0)
    → without_zeros (take count bytes) ≡ without_zeros bytes
    → without_zeros (take (count - many) bytes) ≡ without_zeros bytes
trimmed-zeros bytes count zero few within zeros same =
    let all : count ≡ count - 0 = omega arith in subst (λ n. without_zeros (take n bytes) ≡ without_zeros bytes) all same
trimmed-zeros bytes count (suc many) few within zeros same =
    let before : count - 1 - many ≡ count - suc many = omega (arith, few) in
    subst (λ n. without_zeros (take n bytes) ≡ without_zeros bytes) before
    (trimmed-zeros bytes (count - 1) many (omega (arith, few)) (omega (arith, within)) (λ k from below. zeros k (omega (arith, from, few)) (omega (arith, below, few)))
    (trimmed-zero bytes count (omega (arith, few)) within (zeros (count - 1) (omega (arith, few)) (omega (arith, few))) same))

-- a part that is zeros has a zero at each place
pub zeros-at :
    (bytes : List ℕ) (from many k : ℕ)
    → take many (drop from bytes) ≡ replicate many 0
    → from ≤ k
    → k < from + many
    → get_or bytes k 0 ≡ 0
zeros-at bytes from many k zeros first below =
    let there : from + (k - from) ≡ k = omega (arith, first) in
    let inside : k - from < many = omega (arith, first, below) in
    ap (λ n. get_or bytes n 0) (sym there)
    ∙ (sym (get_or-drop from bytes (k - from) 0)
    ∙ (sym (get_or-take many (drop from bytes) (k - from) 0 inside)
    ∙ (ap (λ xs. get_or xs (k - from) 0) zeros ∙ get_or-replicate many (k - from) 0 0 inside)))

-- another byte below the count
pub trimmed-other :
    (bytes : List ℕ) (count : ℕ)
    → 0 < count
    → count ≤ length bytes
    → get_or bytes (count - 1) 0 ≢ 0
    → without_zeros (take count bytes) ≡ without_zeros bytes
    → take count bytes ≡ without_zeros bytes
trimmed-other bytes count some within other same =
    let last = take-last bytes count some within in
    let differs : (get_or bytes (count - 1) 0 == 0) ≡ false = grind (arith, nat_tests, other) in
    last
    ∙ (sym (without_zeros-last (take (count - 1) bytes) (get_or bytes (count - 1) 0) differs)
    ∙ (ap without_zeros (sym last) ∙ same))

-- no byte is left
pub trimmed-none :
    (bytes : List ℕ) (count : ℕ)
    → count ≤ 0
    → without_zeros (take count bytes) ≡ without_zeros bytes
    → take count bytes ≡ without_zeros bytes
trimmed-none bytes zero none same = same
trimmed-none bytes (suc count) none same = absurd (omega arith)
