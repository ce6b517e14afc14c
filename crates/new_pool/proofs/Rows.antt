-- The rows of a new pool's arrays agree.
use Rattle.std.proofs.Common.{◌≡◌, ℕ, zero, suc, ◌+◌, ◌-◌, ◌*◌, ◌/◌, ◌%◌, ◌<◌, ◌≤◌, List, [], ◌∷◌, ◌++◌, map, length, take, Some, refl, sym, ap, subst, ◌∙◌, arith}
use Rattle.std.specs.List.{range_with_len}
use Rattle.std.proofs.Math.Nat.{add-mod_left, mod-eq_of_lt}
use Rattle.std.proofs.lemmas.Nat.{mod_below}
use Rattle.parity.specs.Xor.{HasLength, xor, xor_all, zeros}
use Rattle.parity.proofs.Laws.{parity_restores}
use Rattle.raid_map.specs.LeftSymmetric.{StandsAt, column_of, member_of, parity_at, parity_of, sector_of}
use Rattle.raid_map.proofs.Rows.{column_of-sector_from, offset-sector_from, row_of-sector_from, sector_from}
use Rattle.rack.specs.Seen.{Image}
use Rattle.array_image.specs.Stripes.{AreAll, first_there, there}
use Rattle.array_image.specs.Arrays.{Member, column}
use Rattle.pool_format.specs.Data.{row_sectors}

-- the columns of members that count
pub columns : (c : Image) (n sector : ℕ) (h : ℕ → Member) (w : ℕ → List ℕ) (a k : ℕ) → ((j : ℕ) → a ≤ j → j < a + k → column c n sector (h j) ≡ Some (w j))
    → there (map (column c n sector) (take k (map h (range_with_len a k)))) ≡ map w (range_with_len a k)
unfolding there
columns c n sector h w a zero each = refl
columns c n sector h w a (suc k) each =
    ap (λ o. there (o ∷ map (column c n sector) (take k (map h (range_with_len (a + 1) k))))) (each a (omega arith) (omega arith))
    ∙ ap (λ vs. w a ∷ vs) (columns c n sector h w (a + 1) k (λ j least low. each j (omega (arith, least)) (omega (arith, low))))

-- ---- copies

all_same : (v : List ℕ) (w : ℕ → List ℕ) (a k : ℕ) → ((j : ℕ) → a ≤ j → j < a + k → w j ≡ v) → AreAll v (map w (range_with_len a k))
all_same v w a zero each = tt
all_same v w a (suc k) each = (each a (omega arith) (omega arith), all_same v w (a + 1) k (λ j least low. each j (omega (arith, least)) (omega (arith, low))))

pub copies_agree : (v : List ℕ) (w : ℕ → List ℕ) (k : ℕ) → 0 < k → ((j : ℕ) → j < k → w j ≡ v) → AreAll (first_there (map w (range_with_len 0 k))) (map w (range_with_len 0 k))
copies_agree v w zero some each = absurd (omega (arith, some))
copies_agree v w (suc k) some each =
    subst (λ u. AreAll u (map w (range_with_len 0 (suc k)))) (sym (each 0 (omega arith))) (all_same v w 0 (suc k) (λ j least low. each j (omega (arith, low))))

-- ---- chunks with their parity

-- a list turned round has the same parity
turned : (a b : List (List ℕ)) → xor_all 512 (a ++ b) ≡ xor_all 512 (b ++ a)
unfolding xor_all
turned [] b = ap (xor_all 512) (sym (append_nothing b))
  where
    append_nothing : (xs : List (List ℕ)) → xs ++ [] ≡ xs
    append_nothing [] = refl
    append_nothing (x ∷ xs) = ap (λ ys. x ∷ ys) (append_nothing xs)
turned (x ∷ a) b = ap (xor x) (turned a b) ∙ sym (parity_restores.any_order 512 b x a)

-- numbers in a row, parted
joined_ranges : {X : Type 0} (g : ℕ → X) (a i k : ℕ) → map g (range_with_len a (i + k)) ≡ map g (range_with_len a i) ++ map g (range_with_len (a + i) k)
joined_ranges g a zero k =
    let same : zero + k ≡ k = omega arith in let from : a ≡ a + zero = omega arith in
    ap (λ m. map g (range_with_len a m)) same ∙ ap (λ b. map g (range_with_len b k)) from
joined_ranges g a (suc i) k =
    let more : suc i + k ≡ suc (i + k) = omega arith in let from : a + 1 + i ≡ a + suc i = omega arith in
    ap (λ m. map g (range_with_len a m)) more
    ∙ ap (λ xs. g a ∷ xs) (joined_ranges g (a + 1) i k ∙ ap (λ b. map g (range_with_len (a + 1) i) ++ map g (range_with_len b k)) from)

same_ranges : {X : Type 0} (g h : ℕ → X) (a b k : ℕ) → ((j : ℕ) → j < k → g (a + j) ≡ h (b + j)) → map g (range_with_len a k) ≡ map h (range_with_len b k)
same_ranges g h a b zero each = refl
same_ranges g h a b (suc k) each =
    let first_a : a + 0 ≡ a = omega arith in let first_b : b + 0 ≡ b = omega arith in
    let first : g a ≡ h b = ap g (sym first_a) ∙ each 0 (omega arith) ∙ ap h first_b in
    let others = same_ranges g h (a + 1) (b + 1) k
    (λ j low. let next_a : a + 1 + j ≡ a + suc j = omega arith in let next_b : b + suc j ≡ b + 1 + j = omega arith in
    ap g next_a ∙ each (suc j) (omega (arith, low)) ∙ ap h next_b) in
    ap (λ x. x ∷ map g (range_with_len (a + 1) k)) first ∙ ap (λ xs. h b ∷ xs) others

sized_range : (g : ℕ → List ℕ) (a k : ℕ) → ((j : ℕ) → a ≤ j → j < a + k → length (g j) ≡ 512) → HasLength 512 (map g (range_with_len a k))
sized_range g a zero each = tt
sized_range g a (suc k) each = (each a (omega arith) (omega arith), sized_range g (a + 1) k (λ j least low. each j (omega (arith, least)) (omega (arith, low))))

sized_both : (xs ys : List (List ℕ)) → HasLength 512 xs → HasLength 512 ys → HasLength 512 (xs ++ ys)
sized_both [] ys one two = two
sized_both (x ∷ xs) ys one two = (one.0, sized_both xs ys one.1 two)

-- where a column of a row stands
stands_in : (n r d o j : ℕ) → d < n - 1 → o < 128 → (parity_of n r + 1 + d) % n ≡ j → StandsAt n (sector_from n r d o) j (r * 128 + o)
unfolding member_of sector_of
stands_in n r d o j low small at =
    let row = row_of-sector_from n r d o low small in
    let column = column_of-sector_from n r d o low small in
    let offset = offset-sector_from n r d o small in
    record {
      on_member = ap (λ (v : ℕ). (parity_of n v + 1 + column_of n (sector_from n r d o)) % n) row ∙ ap (λ (v : ℕ). (parity_of n r + 1 + v) % n) column ∙ at;
      at_sector = ap (λ (v : ℕ). v * 128 + sector_from n r d o % 128) row ∙ ap (λ (v : ℕ). r * 128 + v) offset;
    }

parity_place : (n r : ℕ) → 2 < n → parity_of n r + (n - 1 - parity_of n r) ≡ n - 1
unfolding parity_of
parity_place n r two = let low = mod_below r n (omega (arith, two)) in omega (arith, low)

at_parity : (n sector : ℕ) → parity_of n (sector / 128) ≡ parity_at n sector
unfolding parity_at
at_parity n sector = refl

from_parts : (n r d o : ℕ) → sector_from n r d o ≡ (r * (n - 1) + d) * 128 + o
unfolding sector_from
from_parts n r d o = refl

wrapped : (p q j n : ℕ) → p + q ≡ n - 1 → 2 < n → p + 1 + (q + j) ≡ n + (0 + j)
wrapped p q j n place two = omega (arith, place, two)

mapped : (h : ℕ → List ℕ) (k : ℕ → ℕ) (a m : ℕ) → map h (map k (range_with_len a m)) ≡ map (λ d. h (k d)) (range_with_len a m)
mapped h k a zero = refl
mapped h k a (suc m) = ap (λ xs. h (k a) ∷ xs) (mapped h k (a + 1) m)

-- a row with its parity has the XOR zeros, wherever that stands
pub parity_agrees : (n : ℕ) (array : ℕ → List ℕ) (sector : ℕ) (w : ℕ → List ℕ) → 2 < n → ((j : ℕ) → j < n → length (w j) ≡ 512)
    → ((j x : ℕ) → j < n → StandsAt n x j sector → w j ≡ array x) → ((j : ℕ) → j < n → j ≡ parity_at n sector → w j ≡ xor_all 512 (map array (row_sectors n sector)))
    → xor_all 512 (map w (range_with_len 0 n)) ≡ zeros 512
parity_agrees n array sector w two sized own with_parity =
    let r : ℕ = sector / 128 in
    let o : ℕ = sector % 128 in
    let g : ℕ → List ℕ = λ d. array ((r * (n - 1) + d) * 128 + o) in
    let p : ℕ = parity_of n r in
    let q : ℕ = n - 1 - p in
    let place : p + q ≡ n - 1 = parity_place n r two in
    let here : sector ≡ r * 128 + o = omega arith in
    let small : o < 128 = omega arith in
    let stood : (d j : ℕ) → d < n - 1 → (p + 1 + d) % n ≡ j → StandsAt n ((r * (n - 1) + d) * 128 + o) j sector =
    λ d j low at. subst (λ s. StandsAt n ((r * (n - 1) + d) * 128 + o) j s) (sym here) (subst (λ x. StandsAt n x j (r * 128 + o)) (from_parts n r d o) (stands_in n r d o j low small at)) in
    let before : map w (range_with_len 0 p) ≡ map g (range_with_len q p) =
    same_ranges w g 0 q p
    (λ j low. own (0 + j) ((r * (n - 1) + (q + j)) * 128 + o) (omega (arith, low, place))
    (stood (q + j) (0 + j) (omega (arith, low, place)) (ap (λ v. v % n) (wrapped p q j n place two) ∙ add-mod_left n (0 + j) ∙ mod-eq_of_lt (let inside : 0 + j < n = omega (arith, low, place) in inside)))) in
    let after : map w (range_with_len (p + 1) q) ≡ map g (range_with_len 0 q) =
    same_ranges w g (p + 1) 0 q
    (λ j low. own (p + 1 + j) ((r * (n - 1) + (0 + j)) * 128 + o) (omega (arith, low, place))
    (stood (0 + j) (p + 1 + j) (omega (arith, low, place)) (mod-eq_of_lt (let inside : p + 1 + (0 + j) < n = omega (arith, low, place) in inside) ∙ omega arith))) in
    let row : map array (row_sectors n sector) ≡ map g (range_with_len 0 q) ++ map g (range_with_len q p) =
    mapped array (λ d. (r * (n - 1) + d) * 128 + o) 0 (n - 1) ∙ ap (λ m. map g (range_with_len 0 m)) (omega (arith, place)) ∙ joined_ranges g 0 q p ∙ ap (λ b. map g (range_with_len 0 q) ++ map g (range_with_len b p)) (omega arith) in
    let B : List (List ℕ) = map g (range_with_len q p) in
    let A : List (List ℕ) = map g (range_with_len 0 q) in
    let own_parity : w p ≡ xor_all 512 (B ++ A) = with_parity p (omega (arith, place, two)) (at_parity n sector) ∙ ap (xor_all 512) row ∙ turned A B in
    ap (λ m. xor_all 512 (map w (range_with_len 0 m))) (let all : n ≡ p + suc q = omega (arith, place, two) in all)
    ∙ ap (xor_all 512) (joined_ranges w 0 p (suc q))
    ∙ ap (λ b. xor_all 512 (map w (range_with_len 0 p) ++ w b ∷ map w (range_with_len (b + 1) q))) (let first : 0 + p ≡ p = omega arith in first)
    ∙ ap (λ xs. xor_all 512 (xs ++ w p ∷ map w (range_with_len (p + 1) q))) before
    ∙ ap (λ xs. xor_all 512 (B ++ w p ∷ xs)) after
    ∙ ap (λ v. xor_all 512 (B ++ v ∷ A)) own_parity
    ∙ parity_restores.with_parity 512 B A
    (sized_both B A (subst (HasLength 512) before (sized_range w 0 p (λ j from low. sized j (omega (arith, low, place, two))))) (subst (HasLength 512) after (sized_range w (p + 1) q (λ j from low. sized j (omega (arith, low, place, two))))))
