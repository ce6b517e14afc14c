-- The runs of a grown volume stand in a row, apart from each other, and within the arrays' numbers.
use Rattle.std.proofs.Common.{◌≡◌, ℕ, zero, suc, ◌+◌, ◌<◌, ◌≤◌, ◌==◌, Bool, true, false, List, [], ◌∷◌, Some, refl, sym, subst, ◌∙◌, inl, inr, arith}
use Rattle.std.specs.Prelude.{max, min, slice_get, nat_le, nat_lt}
use Rattle.std.specs.Option.{option_map_or}
use Rattle.std.specs.List.{AllByRecursion, list_all}
use Rattle.std.proofs.lemmas.Bool.{cases_eq, cases_lt, eq-eqb, eqb-true, le-leb, leb-true, lt-ltb, le-ltb, ltb-true}
use Rattle.lvm_group.specs.declared.runs.Run.{Run}
use Rattle.lvm_group.specs.declared.growth.Piece.{Piece}
use Rattle.lvm_group.specs.Runs.{extents_of}
use Rattle.lvm_group.specs.Group.{are_apart, all_apart}
use Rattle.lvm_group.specs.Growth.{end_on, reach, pieces, run_of_piece, started, adjoins, longer, behind_runs, is_within, grown}
use Rattle.lvm_group.specs.Own.{in_row}
use Rattle.lvm_group.proofs.Passed.{both, all_at}

-- ---- in a row

started_row : (start : ℕ) (more : List Piece) → in_row start (started start more) ≡ true
unfolding started in_row
started_row start [] = refl
started_row start (piece ∷ others) = rw (eq-eqb start start refl) (started_row (start + piece.count) others)

joined_row : (from start : ℕ) (run : Run) (piece : Piece) (others : List Piece) (joins : Bool) → adjoins run piece ≡ joins → run.start ≡ from → start ≡ from + run.count
    → in_row from (behind_runs start (run ∷ []) (piece ∷ others)) ≡ true
unfolding behind_runs in_row
joined_row from start run piece others true is here end =
    rw (is, eq-eqb run.start from here) (subst (λ n. in_row n (started (start + piece.count) others) ≡ true) (omega arith) (started_row (start + piece.count) others))
joined_row from start run piece others false is here end =
    rw (is, eq-eqb run.start from here) (subst (λ n. in_row n (started start (piece ∷ others)) ≡ true) end (started_row start (piece ∷ others)))

pub grown_row : (from start : ℕ) (runs : List Run) (more : List Piece) → start ≡ from + extents_of runs → in_row from runs ≡ true → in_row from (behind_runs start runs more) ≡ true
unfolding behind_runs in_row
grown_row from start [] more end row = subst (λ n. in_row n (started start more) ≡ true) (omega arith) (started_row start more)
grown_row from start (run ∷ next ∷ others) more end row =
    let first = both (run.start == from) (in_row (from + run.count) (next ∷ others)) row in
    rw first.0 (grown_row (from + run.count) start (next ∷ others) more (omega arith) first.1)
grown_row from start (run ∷ []) [] end row = row
grown_row from start (run ∷ []) (piece ∷ others) end row =
    joined_row from start run piece others (adjoins run piece) refl (eqb-true run.start from (both (run.start == from) true row).0) (omega arith)

-- ---- what holds of pieces

-- each begins where its array's runs end, before the array's number, and each is of a later array
pub record IsPiece (runs : List Run) (numbers : List ℕ) (piece : Piece) : Type 0 where
  some : 0 < piece.count
  first : piece.first ≡ reach piece.array runs
  number : ℕ
  at : slice_get numbers piece.array ≡ Some number
  ends : piece.first + piece.count ≡ number

-- they are of arrays from this one on, each of a later one
abbrev later : ℕ → List Piece → Type 0
later array [] = Unit {0}
later array (piece ∷ others) = (array ≤ piece.array) × later (piece.array + 1) others

later_weaker : (array less : ℕ) (more : List Piece) → less ≤ array → later array more → later less more
later_weaker array less [] below is = tt
later_weaker array less (piece ∷ others) below is = (let first = is.0 in omega arith, is.1)

pieces_later : (array : ℕ) (runs : List Run) (numbers : List ℕ) → later array (pieces array runs numbers)
unfolding pieces
pieces_later array runs [] = tt
pieces_later array runs (number ∷ others) = elim (cases_lt (reach array runs) number) [
  | inl more ↦ rw (lt-ltb (reach array runs) number more) (omega arith, pieces_later (array + 1) runs others)
  | inr same ↦ rw (le-ltb (reach array runs) number same) (later_weaker (array + 1) array (pieces (array + 1) runs others) (omega arith) (pieces_later (array + 1) runs others))
]

are_pieces : (array : ℕ) (runs : List Run) (all numbers : List ℕ) → ((place number : ℕ) → slice_get numbers place ≡ Some number → slice_get all (array + place) ≡ Some number)
    → AllByRecursion (IsPiece runs all) (pieces array runs numbers)
unfolding pieces
are_pieces array runs all [] from = tt
are_pieces array runs all (number ∷ others) from =
    let rest = are_pieces (array + 1) runs all others (λ place n at. subst (λ m. slice_get all m ≡ Some n) (omega arith) (from (suc place) n at)) in
    elim (cases_lt (reach array runs) number) [
      | inl more ↦ rw (lt-ltb (reach array runs) number more) (
        record {
          some = omega arith;
          first = refl;
          number = number;
          at = subst (λ m. slice_get all m ≡ Some number) (omega arith) (from 0 number refl);
          ends = omega arith;
        },
        rest,
      )
      | inr same ↦ rw (le-ltb (reach array runs) number same) rest
    ]

-- ---- within the numbers

piece_within : (runs : List Run) (numbers : List ℕ) (start : ℕ) (piece : Piece) → IsPiece runs numbers piece → is_within numbers (run_of_piece start piece) ≡ true
piece_within runs numbers start piece is =
    let ends = is.ends in rw (lt-ltb 0 piece.count is.some, is.at) (le-leb (piece.first + piece.count) is.number (omega arith))

started_within : (runs : List Run) (numbers : List ℕ) (start : ℕ) (more : List Piece) → AllByRecursion (IsPiece runs numbers) more → list_all (is_within numbers) (started start more) ≡ true
unfolding started
started_within runs numbers start [] are = refl
started_within runs numbers start (piece ∷ others) are = rw (piece_within runs numbers start piece are.0) (started_within runs numbers (start + piece.count) others are.1)

longer_within : (runs : List Run) (numbers : List ℕ) (run : Run) (piece : Piece) → adjoins run piece ≡ true → IsPiece runs numbers piece → is_within numbers (longer run piece.count) ≡ true
longer_within runs numbers run piece joins is =
    let same = both (run.array == piece.array) (run.first + run.count == piece.first) joins in
    let array = eqb-true run.array piece.array same.0 in
    let end = eqb-true (run.first + run.count) piece.first same.1 in
    let some = is.some in
    let ends = is.ends in
    rw (lt-ltb 0 (run.count + piece.count) (omega arith), array, is.at) (le-leb (run.first + (run.count + piece.count)) is.number (omega arith))

joined_within : (runs : List Run) (numbers : List ℕ) (start : ℕ) (run : Run) (piece : Piece) (others : List Piece) (joins : Bool) → adjoins run piece ≡ joins → AllByRecursion (IsPiece runs numbers) (piece ∷ others)
    → is_within numbers run ≡ true → list_all (is_within numbers) (behind_runs start (run ∷ []) (piece ∷ others)) ≡ true
unfolding behind_runs
joined_within runs numbers start run piece others true is are within = rw (is, longer_within runs numbers run piece is are.0) (started_within runs numbers (start + piece.count) others are.1)
joined_within runs numbers start run piece others false is are within = rw (is, within) (started_within runs numbers start (piece ∷ others) are)

behind_within : (all : List Run) (numbers : List ℕ) (start : ℕ) (runs : List Run) (more : List Piece) → AllByRecursion (IsPiece all numbers) more → list_all (is_within numbers) runs ≡ true
    → list_all (is_within numbers) (behind_runs start runs more) ≡ true
unfolding behind_runs
behind_within all numbers start [] more are within = started_within all numbers start more are
behind_within all numbers start (run ∷ next ∷ others) more are within =
    let first = both (is_within numbers run) (list_all (is_within numbers) (next ∷ others)) within in
    rw first.0 (behind_within all numbers start (next ∷ others) more are first.1)
behind_within all numbers start (run ∷ []) [] are within = within
behind_within all numbers start (run ∷ []) (piece ∷ others) are within =
    joined_within all numbers start run piece others (adjoins run piece) refl are (both (is_within numbers run) true within).0

pub grown_within : (runs : List Run) (numbers : List ℕ) → list_all (is_within numbers) runs ≡ true → list_all (is_within numbers) (grown runs numbers) ≡ true
grown_within runs numbers within =
    behind_within runs numbers (extents_of runs) runs (pieces 0 runs numbers) (are_pieces 0 runs numbers numbers (λ place n at. subst (λ m. slice_get numbers m ≡ Some n) (omega arith) at)) within

-- ---- apart

some_of : (numbers : List ℕ) (run : Run) → is_within numbers run ≡ true → 0 < run.count
some_of numbers run within = ltb-true 0 run.count (both (nat_lt 0 run.count) (option_map_or (λ number. nat_le (run.first + run.count) number) (slice_get numbers run.array) false) within).0

-- a run ends before the pieces of its array
abbrev Clears : Run → List Piece → Type 0
Clears run more = AllByRecursion (λ (piece : Piece). run.array ≡ piece.array → run.first + run.count ≤ piece.first) more

each : {X : Type 0} (P : X → Type 0) (xs : List X) → ((place : ℕ) (x : X) → slice_get xs place ≡ Some x → P x) → AllByRecursion P xs
each P [] all = tt
each P (x ∷ xs) all = (all 0 x refl, each P xs (λ place y at. all (suc place) y at))

end_within : (array : ℕ) (runs : List Run) (place : ℕ) (run : Run) → slice_get runs place ≡ Some run → run.array ≡ array → run.first + run.count ≤ reach array runs
unfolding reach
end_within array [] place run at same = cc
end_within array (first ∷ others) zero run at same =
    let is : first ≡ run = cc in
    let end : end_on array first ≡ run.first + run.count = subst (λ (r : Run). end_on array r ≡ run.first + run.count) (sym is) (rw (eq-eqb run.array array same) refl) in
    omega arith
end_within array (first ∷ others) (suc place) run at same = let rest = end_within array others place run at same in omega arith

clears : (all : List Run) (numbers : List ℕ) (place : ℕ) (run : Run) (more : List Piece) → slice_get all place ≡ Some run → AllByRecursion (IsPiece all numbers) more → Clears run more
clears all numbers place run [] at are = tt
clears all numbers place run (piece ∷ others) at are =
    ((λ same. let end = end_within piece.array all place run at same in let first = are.0.first in omega arith), clears all numbers place run others at are.1)

elsewhere : (run other : Run) → (run.array ≡ other.array → ⊥) → are_apart run other ≡ true
elsewhere run other differ = go (run.array == other.array) refl where
  go : (test : Bool) → (run.array == other.array) ≡ test → are_apart run other ≡ true
  go true is = absurd (differ (eqb-true run.array other.array is))
  go false is = rw is refl

before : (run other : Run) → run.first + run.count ≤ other.first → are_apart run other ≡ true
before run other ends = go (run.array == other.array) refl where
  go : (test : Bool) → (run.array == other.array) ≡ test → are_apart run other ≡ true
  go true is = rw (is, le-leb (min (run.first + run.count) (other.first + other.count)) (max run.first other.first) (omega arith)) refl
  go false is = rw is refl

apart_piece : (run : Run) (start : ℕ) (piece : Piece) → (run.array ≡ piece.array → run.first + run.count ≤ piece.first) → are_apart run (run_of_piece start piece) ≡ true
apart_piece run start piece ends = elim (cases_eq run.array piece.array) [
  | inl same ↦ before run (run_of_piece start piece) (ends same)
  | inr differ ↦ elsewhere run (run_of_piece start piece) differ
]

apart_started : (run : Run) (start : ℕ) (more : List Piece) → Clears run more → list_all (are_apart run) (started start more) ≡ true
unfolding started
apart_started run start [] clear = refl
apart_started run start (piece ∷ others) clear = rw (apart_piece run start piece clear.0) (apart_started run (start + piece.count) others clear.1)

-- pieces of later arrays
later_clear : (run : Run) (array : ℕ) (more : List Piece) → run.array < array → later array more → Clears run more
later_clear run array [] less is = tt
later_clear run array (piece ∷ others) less is = ((λ same. let first = is.0 in absurd (omega arith)), later_clear run (piece.array + 1) others (let first = is.0 in omega arith) is.1)

started_apart : (start array : ℕ) (more : List Piece) → later array more → all_apart (started start more) ≡ true
unfolding started all_apart
started_apart start array [] is = refl
started_apart start array (piece ∷ others) is =
    rw (apart_started (run_of_piece start piece) (start + piece.count) others (later_clear (run_of_piece start piece) (piece.array + 1) others (omega arith) is.1))
    (started_apart (start + piece.count) (piece.array + 1) others is.1)

-- of two runs apart on one array, one that ends no later than the other ends before it
ends_first : (run last : Run) → run.array ≡ last.array → are_apart run last ≡ true → run.first + run.count ≤ last.first + last.count → 0 < run.count → run.first + run.count ≤ last.first
ends_first run last same apart ends some =
    let test : nat_le (min (run.first + run.count) (last.first + last.count)) (max run.first last.first) ≡ true = rw (eq-eqb run.array last.array same) at apart in
    let past = leb-true (min (run.first + run.count) (last.first + last.count)) (max run.first last.first) test in
    omega arith

-- a run apart from another is apart from it once it is longer
apart_longer : (run last : Run) (piece : Piece) → 0 < run.count → are_apart run last ≡ true → adjoins last piece ≡ true → (run.array ≡ piece.array → run.first + run.count ≤ piece.first)
    → are_apart run (longer last piece.count) ≡ true
apart_longer run last piece some apart joins ends = elim (cases_eq run.array last.array) [
  | inr differ ↦ elsewhere run (longer last piece.count) differ
  | inl same ↦
      let is = both (last.array == piece.array) (last.first + last.count == piece.first) joins in
      let array = eqb-true last.array piece.array is.0 in
      let end = eqb-true (last.first + last.count) piece.first is.1 in
      let within = ends (same ∙ array) in
      before run (longer last piece.count) (ends_first run last same apart (omega arith) some)
]

apart_joined : (run last : Run) (start : ℕ) (piece : Piece) (others : List Piece) (joins : Bool) → adjoins last piece ≡ joins → 0 < run.count → are_apart run last ≡ true → Clears run (piece ∷ others)
    → list_all (are_apart run) (behind_runs start (last ∷ []) (piece ∷ others)) ≡ true
unfolding behind_runs
apart_joined run last start piece others true is some apart clear = rw (is, apart_longer run last piece some apart is clear.0) (apart_started run (start + piece.count) others clear.1)
apart_joined run last start piece others false is some apart clear = rw (is, apart) (apart_started run start (piece ∷ others) clear)

apart_behind : (run : Run) (start : ℕ) (runs : List Run) (more : List Piece) → 0 < run.count → list_all (are_apart run) runs ≡ true → Clears run more
    → list_all (are_apart run) (behind_runs start runs more) ≡ true
unfolding behind_runs
apart_behind run start [] more some apart clear = apart_started run start more clear
apart_behind run start (first ∷ next ∷ others) more some apart clear =
    let is = both (are_apart run first) (list_all (are_apart run) (next ∷ others)) apart in
    rw is.0 (apart_behind run start (next ∷ others) more some is.1 clear)
apart_behind run start (last ∷ []) [] some apart clear = apart
apart_behind run start (last ∷ []) (piece ∷ others) some apart clear =
    apart_joined run last start piece others (adjoins last piece) refl some (both (are_apart run last) true apart).0 clear

joined_apart : (run : Run) (start : ℕ) (piece : Piece) (others : List Piece) (joins : Bool) → adjoins run piece ≡ joins → Clears run (piece ∷ others) → later 0 (piece ∷ others)
    → all_apart (behind_runs start (run ∷ []) (piece ∷ others)) ≡ true
unfolding behind_runs all_apart
joined_apart run start piece others true is clear order =
    let same = eqb-true run.array piece.array (both (run.array == piece.array) (run.first + run.count == piece.first) is).0 in
    rw (is, apart_started (longer run piece.count) (start + piece.count) others (later_clear (longer run piece.count) (piece.array + 1) others (omega arith) order.1))
    (started_apart (start + piece.count) (piece.array + 1) others order.1)
joined_apart run start piece others false is clear order = rw (is, apart_started run start (piece ∷ others) clear) (started_apart start 0 (piece ∷ others) order)

behind_apart : (start : ℕ) (runs : List Run) (more : List Piece) → all_apart runs ≡ true → AllByRecursion (λ (run : Run). (0 < run.count) × Clears run more) runs → later 0 more
    → all_apart (behind_runs start runs more) ≡ true
unfolding behind_runs all_apart
behind_apart start [] more apart clear order = started_apart start 0 more order
behind_apart start (run ∷ next ∷ others) more apart clear order =
    let is = both (list_all (are_apart run) (next ∷ others)) (all_apart (next ∷ others)) apart in
    rw (apart_behind run start (next ∷ others) more clear.0.0 is.0 clear.0.1) (behind_apart start (next ∷ others) more is.1 clear.1 order)
behind_apart start (run ∷ []) [] apart clear order = refl
behind_apart start (run ∷ []) (piece ∷ others) apart clear order = joined_apart run start piece others (adjoins run piece) refl clear.0.1 order

pub grown_apart : (runs : List Run) (numbers : List ℕ) → all_apart runs ≡ true → list_all (is_within numbers) runs ≡ true → all_apart (grown runs numbers) ≡ true
grown_apart runs numbers apart within =
    let pieces_are = are_pieces 0 runs numbers numbers (λ place n at. subst (λ m. slice_get numbers m ≡ Some n) (omega arith) at) in
    behind_apart (extents_of runs) runs (pieces 0 runs numbers) apart
    (each (λ (run : Run). (0 < run.count) × Clears run (pieces 0 runs numbers)) runs
    (λ place run at. (some_of numbers run (all_at (is_within numbers) runs place run within at), clears runs numbers place run (pieces 0 runs numbers) at pieces_are)))
    (pieces_later 0 runs numbers)
