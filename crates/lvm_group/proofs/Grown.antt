-- How many runs a grown volume has, and that its parts stand behind each other.
use Rattle.std.proofs.Common.{◌≡◌, ℕ, suc, ◌+◌, ◌<◌, ◌≤◌, ◌^◌, ◌==◌, Bool, true, false, List, [], ◌∷◌, ◌++◌, refl, ap, sym, ◌∙◌, inl, inr, arith, length, append_assoc}
use Rattle.std.specs.Prelude.{if◌then◌else◌, nat_le}
use Rattle.std.proofs.lemmas.Bool.{cases_lt, eqb-true, leb-true, le-leb, lt-leb, lt-ltb, le-ltb}
use Rattle.std.specs.List.{AllByRecursion, list_all}
use Rattle.lvm_group.specs.Runs.{extents_of}
use Rattle.lvm_group.proofs.Passed.{both}
use Rattle.lvm_group.specs.declared.runs.Run.{Run}
use Rattle.lvm_group.specs.declared.growth.Piece.{Piece}
use Rattle.lvm_group.specs.Growth.{started, adjoins, longer, reach, behind_runs, are_joined, AreBelow, is_within, pieces, grown, fits}

pub started_count : (start : ℕ) (more : List Piece) → length (started start more) ≡ length more
unfolding started
started_count start [] = refl
started_count start (piece ∷ others) = ap suc (started_count (start + piece.count) others)

-- whether the first piece goes on with the last run
joined_first : (start : ℕ) (run : Run) (piece : Piece) (others : List Piece) (joins : Bool) → adjoins run piece ≡ joins
    → length (behind_runs start (run ∷ []) (piece ∷ others)) + (if joins then 1 else 0) ≡ 1 + length (piece ∷ others)
unfolding behind_runs started
joined_first start run piece others true is =
    let count = started_count (start + piece.count) others in rw is (omega arith)
joined_first start run piece others false is =
    let count = started_count (start + piece.count) others in rw is (omega arith)

-- one run less where it does
pub joined_count : (start : ℕ) (runs : List Run) (more : List Piece)
    → length (behind_runs start runs more) + (if are_joined runs more then 1 else 0) ≡ length runs + length more
unfolding behind_runs are_joined
joined_count start [] more = let count = started_count start more in omega arith
joined_count start (run ∷ next ∷ others) more = let count = joined_count start (next ∷ others) more in omega arith
joined_count start (run ∷ []) [] = refl
joined_count start (run ∷ []) (piece ∷ others) = joined_first start run piece others (adjoins run piece) refl

-- the last run decides
pub joined_last : (runs : List Run) (run : Run) (more : List Piece) → are_joined (runs ++ run ∷ []) more ≡ are_joined (run ∷ []) more
unfolding are_joined
joined_last [] run more = refl
joined_last (first ∷ []) run more = refl
joined_last (first ∷ next ∷ others) run more = joined_last (next ∷ others) run more

pub behind_last : (start : ℕ) (runs : List Run) (run : Run) (more : List Piece) → behind_runs start (runs ++ run ∷ []) more ≡ runs ++ behind_runs start (run ∷ []) more
unfolding behind_runs
behind_last start [] run more = refl
behind_last start (first ∷ []) run more = refl
behind_last start (first ∷ next ∷ others) run more = ap (λ (rest : List Run). first ∷ rest) (behind_last start (next ∷ others) run more)

pub none_left : {X : Type 0} (xs : List X) → length xs ≡ 0 → xs ≡ []
none_left [] none = refl
none_left (x ∷ xs) none = cc

-- ---- whether it fits

le_both : (a b c d : ℕ) → (a ≤ b → c ≤ d) → (c ≤ d → a ≤ b) → nat_le a b ≡ nat_le c d
le_both a b c d to from = elim (cases_lt b a) [
  | inl above ↦ elim (cases_lt d c) [
    | inl over ↦ lt-leb a b above ∙ sym (lt-leb c d over)
    | inr under ↦ absurd (omega (arith, from under))
  ]
  | inr below ↦ le-leb a b below ∙ sym (le-leb c d (to below))
]

pub fits_by : (runs : List Run) (numbers : List ℕ) (more : List Piece) (joins : Bool) → list_all (is_within numbers) runs ≡ true → more ≡ pieces 0 runs numbers → are_joined runs more ≡ joins
    → nat_le (length runs + length more) (if joins then 1025 else 1024) ≡ fits runs numbers
unfolding fits
fits_by runs numbers more true within is joins =
    let count = joined_count (extents_of runs) runs more in
    let same : length (behind_runs (extents_of runs) runs more) + 1 ≡ length runs + length more = rw joins at count in
    rw (within, ← is) (le_both (length runs + length more) 1025 (length (behind_runs (extents_of runs) runs more)) 1024 (λ h. omega arith) (λ h. omega arith))
fits_by runs numbers more false within is joins =
    let count = joined_count (extents_of runs) runs more in
    let same : length (behind_runs (extents_of runs) runs more) + 0 ≡ length runs + length more = rw joins at count in
    rw (within, ← is) (le_both (length runs + length more) 1024 (length (behind_runs (extents_of runs) runs more)) 1024 (λ h. omega arith) (λ h. omega arith))

-- ---- how large pieces are

pub pieces_small : (array : ℕ) (runs : List Run) (numbers : List ℕ) → AreBelow numbers → AllByRecursion (λ (piece : Piece). piece.first + piece.count < 2 ^ 45) (pieces array runs numbers)
unfolding pieces
pieces_small array runs [] below = tt
pieces_small array runs (number ∷ others) below = elim (cases_lt (reach array runs) number) [
  | inl more ↦ rw (lt-ltb (reach array runs) number more) (let one = below.0 in omega arith, pieces_small (array + 1) runs others below.1)
  | inr same ↦ rw (le-ltb (reach array runs) number same) (pieces_small (array + 1) runs others below.1)
]

pub pieces_few : (array : ℕ) (runs : List Run) (numbers : List ℕ) → length (pieces array runs numbers) ≤ length numbers
unfolding pieces
pieces_few array runs [] = omega arith
pieces_few array runs (number ∷ others) =
    let few = pieces_few (array + 1) runs others in elim (cases_lt (reach array runs) number) [
      | inl more ↦ rw (lt-ltb (reach array runs) number more) (omega arith)
      | inr same ↦ rw (le-ltb (reach array runs) number same) (omega arith)
    ]

-- ---- its parts

-- nothing is joined
pub apart_parts : (start : ℕ) (runs : List Run) (more : List Piece) → are_joined runs more ≡ false → behind_runs start runs more ≡ runs ++ started start more
unfolding behind_runs are_joined started
apart_parts start [] more apart = refl
apart_parts start (run ∷ next ∷ others) more apart = ap (λ (rest : List Run). run ∷ rest) (apart_parts start (next ∷ others) more apart)
apart_parts start (run ∷ []) [] apart = refl
apart_parts start (run ∷ []) (piece ∷ others) apart = rw apart refl

-- the last run is longer
pub joined_parts : (start : ℕ) (runs front : List Run) (run : Run) (more others : List Piece) (piece : Piece) → runs ≡ front ++ run ∷ [] → more ≡ piece ∷ others → are_joined runs more ≡ true
    → (behind_runs start runs more ≡ (front ++ longer run piece.count ∷ []) ++ started (start + piece.count) others) × (run.first + run.count ≡ piece.first)
unfolding behind_runs are_joined
joined_parts start runs front run more others piece is starts joins =
    let one : are_joined (front ++ run ∷ []) (piece ∷ others) ≡ true = rw (is, starts) at joins in
    let adjoin : adjoins run piece ≡ true = sym (joined_last front run (piece ∷ others)) ∙ one in
    (rw (is, starts, behind_last start front run (piece ∷ others), adjoin, append_assoc) refl, eqb-true (run.first + run.count) piece.first (both (run.array == piece.array) (run.first + run.count == piece.first) adjoin).1)

-- no run or no piece
pub none_joined : (runs : List Run) (more : List Piece) → length runs ≡ 0 → are_joined runs more ≡ false
unfolding are_joined
none_joined runs more none = rw (none_left runs none) refl

pub not_joined : (runs front : List Run) (run : Run) (more : List Piece) → runs ≡ front ++ run ∷ [] → length more ≡ 0 → are_joined runs more ≡ false
unfolding are_joined
not_joined runs front run more is none = rw (is, joined_last front run more, none_left more none) refl

-- it has no more segments than a text may have
pub fits_few : (runs : List Run) (numbers : List ℕ) → fits runs numbers ≡ true → length (grown runs numbers) ≤ 1024
unfolding fits
fits_few runs numbers is = leb-true (length (grown runs numbers)) 1024 (both (list_all (is_within numbers) runs) (nat_le (length (grown runs numbers)) 1024) is).1
