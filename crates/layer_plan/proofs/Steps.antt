-- Places that pass a test, one place further.
use Rattle.std.proofs.Common.{◌≡◌, ℕ, zero, suc, ◌+◌, List, [], ◌∷◌, ◌++◌, filter, Bool, cond, ap, ◌∙◌, arith, add-zero, zero-add, add-one, sym, append-nil, slice_index, get_or, nat_le, true, false, ◌<◌, ◌≤◌}
use Rattle.std.proofs.lemmas.Bool.{le-leb, lt-leb}
use Rattle.std.specs.List.{range_with_len}
use Rattle.std.proofs.lemmas.List.Elements.{filter-append}

range_more : (a n : ℕ) → range_with_len a (suc n) ≡ range_with_len a n ++ (a + n) ∷ []
range_more a zero = rw add-zero
range_more a (suc n) =
    let same : (a + 1) + n ≡ a + suc n = omega arith in
    ap (λ rest. a ∷ rest) (range_more (a + 1) n) ∙ ap (λ k. a ∷ (range_with_len (a + 1) n ++ k ∷ [])) same

pub filter_range_more : (p : ℕ → Bool) (n : ℕ) →
    filter p (range_with_len 0 (n + 1)) ≡ filter p (range_with_len 0 n) ++ cond (p n) (n ∷ []) []
filter_range_more p n =
    rw add-one
    (ap (filter p) (range_more 0 n) ∙ filter-append p (range_with_len 0 n) ((0 + n) ∷ [])
    ∙ ap (λ k. filter p (range_with_len 0 n) ++ cond (p k) (k ∷ []) []) (zero-add n))

-- the next drive reaches the level
pub reaching_yes : (level n : ℕ) (units places : List ℕ) →
    places ≡ filter (λ k. nat_le level (slice_index units k)) (range_with_len 0 n) → level ≤ get_or units n 0 →
    places ++ n ∷ [] ≡ filter (λ k. nat_le level (slice_index units k)) (range_with_len 0 (n + 1))
reaching_yes level n units places kept high =
    let passes : nat_le level (slice_index units n) ≡ true = le-leb level (get_or units n 0) high in
    rw (filter_range_more (λ k. nat_le level (slice_index units k)) n, passes) (ap (λ done. done ++ n ∷ []) kept)

-- the next drive doesn't
pub reaching_no : (level n : ℕ) (units places : List ℕ) →
    places ≡ filter (λ k. nat_le level (slice_index units k)) (range_with_len 0 n) → get_or units n 0 < level →
    places ≡ filter (λ k. nat_le level (slice_index units k)) (range_with_len 0 (n + 1))
reaching_no level n units places kept low =
    let fails : nat_le level (slice_index units n) ≡ false = lt-leb level (get_or units n 0) low in
    rw (filter_range_more (λ k. nat_le level (slice_index units k)) n, fails) (kept ∙ sym (append-nil _))
