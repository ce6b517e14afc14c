-- Bytes of an array in a row, sector by sector and all at once: the reading of a text by lvm_group is that of the meaning.
use Rattle.std.proofs.Common.{◌≡◌, ℕ, zero, suc, ◌+◌, ◌-◌, ◌*◌, ◌<◌, ◌≤◌, List, [], ◌∷◌, ◌++◌, length, take, drop, Some, refl, sym, ap, ap₂, ◌∙◌, inl, inr, arith}
use Rattle.std.specs.List.{flat_map, range_with_len}
use Rattle.std.proofs.lemmas.Bool.{cases_lt}
use Rattle.lvm_group.specs.Parts.{Array, row_at, behind}
use Rattle.lvm_group.proofs.Rows.{row_piece}

-- the sectors of an array from one on, so many
unfoldable pub sectors_from : Array → ℕ → ℕ → List ℕ
sectors_from c s zero = []
sectors_from c s (suc m) = c s ++ sectors_from c (s + 1) m

pub flat_sectors : (c : Array) (s a m : ℕ) → flat_map (λ k. c (s + k)) (range_with_len a m) ≡ sectors_from c (s + a) m
unfolding sectors_from
flat_sectors c s a zero = refl
flat_sectors c s a (suc m) =
    let next : s + (a + 1) ≡ s + a + 1 = omega arith in
    ap (λ xs. c (s + a) ++ xs) (flat_sectors c s (a + 1) m ∙ ap (λ k. sectors_from c k m) next)

-- ---- lists

drop_past : (i : ℕ) (xs ys : List ℕ) → drop (length xs + i) (xs ++ ys) ≡ drop i ys
drop_past i [] ys = let same : 0 + i ≡ i = omega arith in ap (λ k. drop k ys) same
drop_past i (x ∷ xs) ys = let same : suc (length xs) + i ≡ suc (length xs + i) = omega arith in ap (λ k. drop k (x ∷ (xs ++ ys))) same ∙ drop_past i xs ys

drop_within : (i : ℕ) (xs ys : List ℕ) → i ≤ length xs → drop i (xs ++ ys) ≡ drop i xs ++ ys
drop_within zero xs ys short = refl
drop_within (suc i) [] ys short = absurd (omega (arith, short))
drop_within (suc i) (x ∷ xs) ys short = drop_within i xs ys (omega (arith, short))

take_past : (n : ℕ) (xs ys : List ℕ) → take (length xs + n) (xs ++ ys) ≡ xs ++ take n ys
take_past n [] ys = let same : 0 + n ≡ n = omega arith in ap (λ k. take k ys) same
take_past n (x ∷ xs) ys =
    let same : suc (length xs) + n ≡ suc (length xs + n) = omega arith in
    ap (λ k. take k (x ∷ (xs ++ ys))) same ∙ ap (λ zs. x ∷ zs) (take_past n xs ys)

take_within : (n : ℕ) (xs ys : List ℕ) → n ≤ length xs → take n (xs ++ ys) ≡ take n xs
take_within zero xs ys short = refl
take_within (suc n) [] ys short = absurd (omega (arith, short))
take_within (suc n) (x ∷ xs) ys short = ap (λ zs. x ∷ zs) (take_within n xs ys (omega (arith, short)))

length_dropped : (i : ℕ) (xs : List ℕ) → length (drop i xs) ≡ length xs - i
length_dropped zero xs = omega arith
length_dropped (suc i) [] = omega arith
length_dropped (suc i) (x ∷ xs) = length_dropped i xs ∙ (let same : length xs - i ≡ suc (length xs) - suc i = omega arith in same)

take_whole : (n : ℕ) (xs : List ℕ) → length xs ≤ n → take n xs ≡ xs
take_whole zero [] short = refl
take_whole zero (x ∷ xs) short = absurd (omega (arith, short))
take_whole (suc n) [] short = refl
take_whole (suc n) (x ∷ xs) short = ap (λ zs. x ∷ zs) (take_whole n xs (omega (arith, short)))

-- ---- rows

none_at : (c : Array) (place count : ℕ) → count ≡ 0 → row_at c place count ≡ Some []
unfolding row_at
none_at c place count none = ap (row_at c place) none

pub row_sectors : (c : Array) (m s i count : ℕ) → ((k : ℕ) → k < m → length (c (s + k)) ≡ 512) → i + count ≤ 512 * m
    → row_at c (512 * s + i) count ≡ Some (take count (drop i (sectors_from c s m)))
unfolding sectors_from
row_sectors c zero s i count sized inside =
    let none : count ≡ 0 = omega (arith, inside) in
    none_at c (512 * s + i) count none ∙ ap (λ n. Some (take n (drop i []))) (sym none)
row_sectors c (suc m) s i count sized inside =
    let same : s + 0 ≡ s = omega arith in
    let wide : length (c s) ≡ 512 = ap (λ k. length (c k)) (sym same) ∙ sized 0 (omega arith) in
    let others : (k : ℕ) → k < m → length (c (s + 1 + k)) ≡ 512 =
    λ k low. let at : s + 1 + k ≡ s + (k + 1) = omega arith in ap (λ j. length (c j)) at ∙ sized (k + 1) (omega (arith, low)) in
    let rest = sectors_from c (s + 1) m in
    elim (cases_lt i 512) [
      | inr past ↦
          let place : 512 * s + i ≡ 512 * (s + 1) + (i - 512) = omega (arith, past) in
          let index : i ≡ length (c s) + (i - 512) = omega (arith, past, wide) in
          ap (λ p. row_at c p count) place
          ∙ row_sectors c m (s + 1) (i - 512) count others (omega (arith, past, inside))
          ∙ ap (λ xs. Some (take count xs)) (sym (ap (λ k. drop k (c s ++ rest)) index ∙ drop_past (i - 512) (c s) rest))
      | inl low ↦
          elim (cases_lt (512 - i) count) [
            | inl more ↦
                let piece = 512 - i in
                let left = count - piece in
                let first = drop i (c s) in
                let size : length first ≡ piece = length_dropped i (c s) ∙ ap (λ n. n - i) wide in
                let total : count ≡ length first + left = omega (arith, size, more) in
                let at : 512 * (s + 1) ≡ 512 * (s + 1) + 0 = omega arith in
                row_piece c s i piece left (512 * s + i) (512 * (s + 1)) count (omega arith) (omega (arith, low)) (omega (arith, more))
                (omega (arith, wide, low)) (omega (arith, low))
                ∙ ap₂ behind (take_whole piece first (omega (arith, size)))
                (ap (λ p. row_at c p left) at ∙ row_sectors c m (s + 1) 0 left others (omega (arith, inside, more, low)))
                ∙ ap Some (sym (ap (take count) (drop_within i (c s) rest (omega (arith, low, wide)))
                ∙ ap (λ n. take n (first ++ rest)) total ∙ take_past left first rest))
            | inr all ↦
                let first = drop i (c s) in
                let size : length first ≡ 512 - i = length_dropped i (c s) ∙ ap (λ n. n - i) wide in
                row_piece c s i count 0 (512 * s + i) (512 * s + i + count) count (omega arith) refl (omega arith) (omega (arith, wide, low, all)) (omega (arith, low, all))
                ∙ ap (behind (take count first)) (none_at c (512 * s + i + count) 0 refl)
                ∙ ap Some (append_none (take count first))
                ∙ ap Some (sym (ap (take count) (drop_within i (c s) rest (omega (arith, low, wide))) ∙ take_within count first rest (omega (arith, size, all))))
          ]
    ]
  where
    append_none : (xs : List ℕ) → xs ++ [] ≡ xs
    append_none [] = refl
    append_none (x ∷ xs) = ap (λ ys. x ∷ ys) (append_none xs)

-- sectors more or less make no difference behind the bytes that are taken
pub more_sectors : (c e : Array) (m n s : ℕ) (count i : ℕ) → i + count ≤ 512 * m → m ≤ n → ((k : ℕ) → k < m → length (c (s + k)) ≡ 512)
    → ((k : ℕ) → k < m → e (s + k) ≡ c (s + k))
    → take count (drop i (sectors_from e s n)) ≡ take count (drop i (sectors_from c s m))
unfolding sectors_from
more_sectors c e zero n s count i inside less sized same =
    let none : count ≡ 0 = omega (arith, inside) in
    ap (λ k. take k (drop i (sectors_from e s n))) none ∙ ap (λ k. take k (drop i [])) (sym none)
more_sectors c e (suc m) zero s count i inside less sized same = absurd (omega (arith, less))
more_sectors c e (suc m) (suc n) s count i inside less sized same =
    let first : s + 0 ≡ s = omega arith in
    let head : e s ≡ c s = ap e (sym first) ∙ same 0 (omega arith) ∙ ap c first in
    let wide : length (c s) ≡ 512 = ap (λ k. length (c k)) (sym first) ∙ sized 0 (omega arith) in
    let sized_on : (k : ℕ) → k < m → length (c (s + 1 + k)) ≡ 512 =
    λ k low. let at : s + 1 + k ≡ s + (k + 1) = omega arith in ap (λ j. length (c j)) at ∙ sized (k + 1) (omega (arith, low)) in
    let same_on : (k : ℕ) → k < m → e (s + 1 + k) ≡ c (s + 1 + k) =
    λ k low. let at : s + 1 + k ≡ s + (k + 1) = omega arith in ap e at ∙ same (k + 1) (omega (arith, low)) ∙ ap c (sym at) in
    let front = sectors_from e (s + 1) n in
    let back = sectors_from c (s + 1) m in
    ap (λ xs. take count (drop i (xs ++ front))) head
    ∙ elim (cases_lt i 512) [
      | inr past ↦
          let index : i ≡ length (c s) + (i - 512) = omega (arith, past, wide) in
          ap (λ k. take count (drop k (c s ++ front))) index ∙ ap (take count) (drop_past (i - 512) (c s) front)
          ∙ more_sectors c e m n (s + 1) count (i - 512) (omega (arith, past, inside)) (omega (arith, less)) sized_on same_on
          ∙ sym (ap (λ k. take count (drop k (c s ++ back))) index ∙ ap (take count) (drop_past (i - 512) (c s) back))
      | inl low ↦
          let part = drop i (c s) in
          let size : length part ≡ 512 - i = length_dropped i (c s) ∙ ap (λ n. n - i) wide in
          ap (take count) (drop_within i (c s) front (omega (arith, low, wide)))
          ∙ elim (cases_lt (512 - i) count) [
            | inl more ↦
                let left = count - (512 - i) in
                let total : count ≡ length part + left = omega (arith, size, more) in
                let none : left + 0 ≡ left = omega arith in
                ap (λ k. take k (part ++ front)) total ∙ take_past left part front
                ∙ ap (λ xs. part ++ xs) (more_sectors c e m n (s + 1) left 0 (omega (arith, inside, more, low)) (omega (arith, less)) sized_on same_on)
                ∙ sym (ap (λ k. take k (part ++ back)) total ∙ take_past left part back)
            | inr all ↦ take_within count part front (omega (arith, size, all)) ∙ sym (take_within count part back (omega (arith, size, all)))
          ]
          ∙ sym (ap (take count) (drop_within i (c s) back (omega (arith, low, wide))))
    ]
