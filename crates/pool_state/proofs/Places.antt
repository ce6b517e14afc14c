-- What holds of each place below a count, place by place.
use Rattle.std.proofs.Common.{◌≡◌, ℕ, ◌+◌, ◌<◌, ◌≤◌, Bool, true, false, nat_le, List, [], ◌∷◌, ◌++◌, get_or, refl, sym, ap, ◌∙◌, arith, zero-add}
use Rattle.std.specs.List.{list_all, range_with_len}
use Rattle.std.proofs.lemmas.Bool.{and_from, and_parts, le-leb, leb-true, lt-leb}
use Rattle.std.proofs.lemmas.List.{map-id}
use Rattle.std.proofs.lemmas.List.Folds.{list_all-append, list_all_at}
use Rattle.std.proofs.lemmas.List.FromFn.{get_or-map-range_with_len, length-range_with_len, map-range_with_len_more}
use Rattle.pool_state.specs.Sector.{count_of, flags_at, has_flags, is_canonical}

range-more : (n : ℕ) → range_with_len 0 (n + 1) ≡ range_with_len 0 n ++ n ∷ []
range-more n =
    sym (map-id (range_with_len 0 (n + 1)))
    ∙ map-range_with_len_more (λ (k : ℕ). k) 0 n n (zero-add n)
    ∙ ap (λ (xs : List ℕ). xs ++ n ∷ []) (map-id (range_with_len 0 n))

get_or-range : (n k : ℕ) → k < n → get_or (range_with_len 0 n) k 0 ≡ k
get_or-range n k below =
    ap (λ (xs : List ℕ). get_or xs k 0) (sym (map-id (range_with_len 0 n)))
    ∙ get_or-map-range_with_len (λ (i : ℕ). i) 0 n k k 0 below (zero-add k)

-- the flags of one drive more
pub has_flags-more : (place : ℕ) (block : List ℕ) → has_flags place block ≡ true → flags_at place block ≤ 1 → has_flags (place + 1) block ≡ true
has_flags-more place block before here =
    let test : ℕ → Bool = λ k. nat_le (flags_at k block) 1 in
    ap (list_all test) (range-more place) ∙ list_all-append test (range_with_len 0 place) (place ∷ [])
    ∙ and_from _ _ before (and_from _ _ (le-leb (flags_at place block) 1 here) refl)

-- a drive with other flags
pub has_flags-false : (count place : ℕ) (block : List ℕ) → place < count → 1 < flags_at place block → has_flags count block ≡ false
has_flags-false count place block below other =
    let test : ℕ → Bool = λ k. nat_le (flags_at k block) 1 in
    list_all_at test (range_with_len 0 count) place 0 (omega (arith, length-range_with_len 0 count))
    (ap test (get_or-range count place below) ∙ lt-leb (flags_at place block) 1 other)

-- a list that is written as it has to be has at most 16 drives
pub count_of-is_canonical : (block : List ℕ) → is_canonical block ≡ true → count_of block ≤ 16
unfolding is_canonical
count_of-is_canonical block canonical = leb-true (count_of block) 16 (and_parts _ _ canonical).0
