-- The group that the pool writes is its own, and its volume has the runs that it was written of.
use Rattle.std.proofs.Common.{◌≡◌, ◌^◌, ℕ, zero, suc, ◌+◌, ◌*◌, ◌<◌, ◌≤◌, ◌==◌, Bool, true, false, List, [], ◌∷◌, Option, Some, refl, sym, ap, subst, ◌∙◌, arith, length, map}
use Rattle.std.specs.Prelude.{slice_get, nat_le, nat_lt, bytes_eq}
use Rattle.std.specs.Option.{option_map_or}
use Rattle.std.specs.Fmt.{digits}
use Rattle.std.specs.List.{list_all, list_any, range_with_len}
use Rattle.std.proofs.lemmas.Bool.{eq-eqb, eqb-true, le-leb, lt-ltb}
use Rattle.std.proofs.lemmas.Slice.Eq.{bytes_eq-Decides}
use Rattle.lvm_text.specs.declared.group.Pv.{Pv}
use Rattle.lvm_group.specs.declared.runs.Run.{Run}
use Rattle.lvm_group.specs.Ids.{array_named, pv_name, pv_id, text_id, group_name, group_id, lv_name, lv_id}
use Rattle.lvm_group.specs.Runs.{data_start}
use Rattle.lvm_group.specs.Growth.{is_within}
use Rattle.lvm_group.specs.Own.{own_pv, own_pvs, own_group, segment_of, in_row, HoldAll}
use Rattle.lvm_group.specs.Group.{run_in, runs_from, names, pv_of, is_pv, follow, lies_in, all_apart, differ, is_own_group}
use Rattle.lvm_group.proofs.Passed.{both, all_at, some_passes}

-- ---- names

pub same_bytes : (xs : List ℕ) → bytes_eq xs xs ≡ true
same_bytes xs = (bytes_eq-Decides xs xs).1 refl

are_named : list_all (λ a. option_map_or (λ n. n == a) (array_named (pv_name a)) false) (range_with_len 0 16) ≡ true
unfolding digits
are_named = refl

range_from : (from count place : ℕ) → place < count → slice_get (range_with_len from count) place ≡ Some (from + place)
range_from from zero place below = absurd (omega arith)
range_from from (suc count) zero below = ap (λ n. Some n) (omega arith)
range_from from (suc count) (suc place) below = range_from (from + 1) count place (omega arith) ∙ ap (λ n. Some n) (omega arith)

pub range_at : (count place : ℕ) → place < count → slice_get (range_with_len 0 count) place ≡ Some place
range_at count place below = range_from 0 count place below ∙ ap (λ n. Some n) (omega arith)

-- an array is found by its physical volume's name
pub named : (a : ℕ) → a < 16 → array_named (pv_name a) ≡ Some a
named a below =
    let passes = all_at (λ a. option_map_or (λ n. n == a) (array_named (pv_name a)) false) (range_with_len 0 16) a a are_named (range_at 16 a below) in
    let is = some_passes (λ n. n == a) (array_named (pv_name a)) passes in
    is.1 ∙ ap (λ n. Some n) (eqb-true is.0 a is.2)

other_name : (a b : ℕ) → a < 16 → b < 16 → (a ≡ b → ⊥) → bytes_eq (pv_name b) (pv_name a) ≡ false
other_name a b small less differ = go (bytes_eq (pv_name b) (pv_name a)) refl where
  go : (test : Bool) → bytes_eq (pv_name b) (pv_name a) ≡ test → test ≡ false
  go false is = refl
  go true is =
      let same : pv_name b ≡ pv_name a = (bytes_eq-Decides (pv_name b) (pv_name a)).0 is in
      let one : Some a ≡ Some b = sym (named a small) ∙ ap array_named (sym same) ∙ named b less in
      absurd (differ cc)

-- ---- physical volumes

is_own_pv : (pool : List ℕ) (extent joined : ℕ) (sectors : ℕ → ℕ) (array number : ℕ) → array < 16 → array < joined → data_start + number * extent ≤ sectors array
    → is_pv pool extent sectors joined (own_pv pool (sectors array) array number) ≡ true
is_own_pv pool extent joined sectors array number small below holds =
    rw (named array small, lt-ltb array joined below, same_bytes (text_id (pv_id pool array)), le-leb (data_start + number * extent) (sectors array) holds) refl

are_own_pvs : (pool : List ℕ) (extent joined : ℕ) (sectors : ℕ → ℕ) (array : ℕ) (numbers : List ℕ) → array + length numbers ≤ 16 → array + length numbers ≤ joined → HoldAll extent sectors array numbers
    → list_all (is_pv pool extent sectors joined) (own_pvs pool sectors array numbers) ≡ true
unfolding own_pvs
are_own_pvs pool extent joined sectors array [] few joins holds = refl
are_own_pvs pool extent joined sectors array (number ∷ others) few joins holds =
    let here : data_start + number * extent ≤ sectors array = subst (λ n. data_start + number * extent ≤ sectors n) (omega arith) (holds 0 number refl) in
    rw (is_own_pv pool extent joined sectors array number (omega arith) (omega arith) here)
    (are_own_pvs pool extent joined sectors (array + 1) others (omega arith) (omega arith)
    (λ place n at. subst (λ m. data_start + n * extent ≤ sectors m) (omega arith) (holds (suc place) n at)))

-- those behind have other names
others_differ : (pool : List ℕ) (sectors : ℕ → ℕ) (before array : ℕ) (numbers : List ℕ) → before < array → array + length numbers ≤ 16
    → list_any (λ (other : Pv). bytes_eq other.name (pv_name before)) (own_pvs pool sectors array numbers) ≡ false
unfolding own_pvs
others_differ pool sectors before array [] less few = refl
others_differ pool sectors before array (number ∷ others) less few =
    rw (other_name before array (omega arith) (omega arith) (λ same. absurd (omega arith))) (others_differ pool sectors before (array + 1) others (omega arith) (omega arith))

all_differ : (pool : List ℕ) (sectors : ℕ → ℕ) (array : ℕ) (numbers : List ℕ) → array + length numbers ≤ 16 → differ (own_pvs pool sectors array numbers) ≡ true
unfolding own_pvs differ
all_differ pool sectors array [] few = refl
all_differ pool sectors array (number ∷ others) few =
    rw (others_differ pool sectors array (array + 1) others (omega arith) (omega arith)) (all_differ pool sectors (array + 1) others (omega arith))

slice_below : (xs : List ℕ) (place x : ℕ) → slice_get xs place ≡ Some x → place < length xs
slice_below [] place x at = cc
slice_below (y ∷ xs) zero x at = omega arith
slice_below (y ∷ xs) (suc place) x at = let rest = slice_below xs place x at in omega arith

ne_eq : (a b : ℕ) → a < b → (a == b) ≡ false
ne_eq a b less = go (a == b) refl where
  go : (test : Bool) → (a == b) ≡ test → test ≡ false
  go false is = refl
  go true is = let same = eqb-true a b is in absurd (omega arith)

-- an array's physical volume is found
own_pv_of : (pool : List ℕ) (sectors : ℕ → ℕ) (array : ℕ) (numbers : List ℕ) (place number : ℕ) → array + length numbers ≤ 16 → slice_get numbers place ≡ Some number
    → pv_of (own_pvs pool sectors array numbers) (array + place) ≡ Some (own_pv pool (sectors (array + place)) (array + place) number)
unfolding own_pvs
own_pv_of pool sectors array [] place number few at = cc
own_pv_of pool sectors array (first ∷ others) zero number few at =
    let same : first ≡ number = cc in
    let here : names (array + 0) (own_pv pool (sectors array) array first) ≡ true = rw (named array (omega arith)) (eq-eqb array (array + 0) (omega arith)) in
    let zero_more : array + 0 ≡ array = omega arith in
    rw here (subst (λ (n : ℕ). Some (own_pv pool (sectors array) array first) ≡ Some (own_pv pool (sectors n) n number)) (sym zero_more) (ap (λ n. Some (own_pv pool (sectors array) array n)) same))
own_pv_of pool sectors array (first ∷ others) (suc place) number few at =
    let inside = slice_below others place number at in
    let there : names (array + suc place) (own_pv pool (sectors array) array first) ≡ false = rw (named array (omega arith)) (ne_eq array (array + suc place) (omega arith)) in
    let more : array + 1 + place ≡ array + suc place = omega arith in
    rw there (subst (λ (n : ℕ). pv_of (own_pvs pool sectors (array + 1) others) n ≡ Some (own_pv pool (sectors n) n number)) more (own_pv_of pool sectors (array + 1) others place number (omega arith) at))

-- ---- the volume

-- an array with a number is one of the first
within_number : (numbers : List ℕ) (run : Run) → is_within numbers run ≡ true → (number : ℕ) × (slice_get numbers run.array ≡ Some number) × (nat_le (run.first + run.count) number ≡ true)
within_number numbers run within =
    some_passes (λ number. nat_le (run.first + run.count) number) (slice_get numbers run.array) (both (nat_lt 0 run.count) (option_map_or (λ number. nat_le (run.first + run.count) number) (slice_get numbers run.array) false) within).1

pub small_array : (numbers : List ℕ) (run : Run) → length numbers ≤ 16 → is_within numbers run ≡ true → run.array < 16
small_array numbers run few within =
    let is = within_number numbers run within in
    let below = slice_below numbers run.array is.0 is.1 in
    omega arith

-- a segment's run is the one that it is of
run_back : (run : Run) → run.array < 16 → run_in (segment_of run) ≡ Some run
run_back run small = rw (named run.array small) refl

pub runs_back : (numbers : List ℕ) (runs : List Run) → length numbers ≤ 16 → list_all (is_within numbers) runs ≡ true → runs_from (map segment_of runs) ≡ runs
unfolding runs_from
runs_back numbers [] few within = refl
runs_back numbers (run ∷ others) few within =
    let first = both (is_within numbers run) (list_all (is_within numbers) others) within in
    rw (run_back run (small_array numbers run few first.0)) (ap (λ (rest : List Run). run ∷ rest) (runs_back numbers others few first.1))

they_follow : (numbers : List ℕ) (start : ℕ) (runs : List Run) → length numbers ≤ 16 → list_all (is_within numbers) runs ≡ true → in_row start runs ≡ true → follow start (map segment_of runs) ≡ true
unfolding follow in_row
they_follow numbers start [] few within row = refl
they_follow numbers start (run ∷ others) few within row =
    let first = both (is_within numbers run) (list_all (is_within numbers) others) within in
    let here = both (run.start == start) (in_row (start + run.count) others) row in
    rw (here.0, run_back run (small_array numbers run few first.0)) (they_follow numbers (start + run.count) others few first.1 here.1)

it_lies : (pool : List ℕ) (sectors : ℕ → ℕ) (numbers : List ℕ) (run : Run) → length numbers ≤ 16 → is_within numbers run ≡ true → lies_in (own_pvs pool sectors 0 numbers) run ≡ true
it_lies pool sectors numbers run few within =
    let is = within_number numbers run within in
    let found : pv_of (own_pvs pool sectors 0 numbers) run.array ≡ Some (own_pv pool (sectors run.array) run.array is.0) =
    subst (λ (n : ℕ). pv_of (own_pvs pool sectors 0 numbers) n ≡ Some (own_pv pool (sectors n) n is.0)) (omega arith) (own_pv_of pool sectors 0 numbers run.array is.0 (omega arith) is.1) in
    subst (λ (o : Option Pv). option_map_or (λ (pv : Pv). nat_le (run.first + run.count) pv.pe_count) o false ≡ true) (sym found) is.2

they_lie : (pool : List ℕ) (sectors : ℕ → ℕ) (numbers : List ℕ) (runs : List Run) → length numbers ≤ 16 → list_all (is_within numbers) runs ≡ true → list_all (lies_in (own_pvs pool sectors 0 numbers)) runs ≡ true
they_lie pool sectors numbers [] few within = refl
they_lie pool sectors numbers (run ∷ others) few within =
    let first = both (is_within numbers run) (list_all (is_within numbers) others) within in
    rw (it_lies pool sectors numbers run few first.0) (they_lie pool sectors numbers others few first.1)

pub length_own_pvs : (pool : List ℕ) (sectors : ℕ → ℕ) (array : ℕ) (numbers : List ℕ) → length (own_pvs pool sectors array numbers) ≡ length numbers
unfolding own_pvs
length_own_pvs pool sectors array [] = refl
length_own_pvs pool sectors array (number ∷ others) = ap suc (length_own_pvs pool sectors (array + 1) others)

pub length_map : {X Y : Type 0} (f : X → Y) (xs : List X) → length (map f xs) ≡ length xs
length_map f [] = refl
length_map f (x ∷ xs) = ap suc (length_map f xs)

-- what a group is written of
pub record IsWritable (extent joined : ℕ) (sectors : ℕ → ℕ) (seqno : ℕ) (numbers : List ℕ) (runs : List Run) : Type 0 where
  pub few : length numbers ≤ 16
  pub joins : length numbers ≤ joined
  pub holds : HoldAll extent sectors 0 numbers
  pub room : seqno < 2 ^ 63
  pub row : in_row 0 runs ≡ true
  pub apart : all_apart runs ≡ true
  pub within : list_all (is_within numbers) runs ≡ true
  pub short : length runs ≤ 1024

pub own_is_own : (pool : List ℕ) (extent joined : ℕ) (sectors : ℕ → ℕ) (seqno : ℕ) (numbers : List ℕ) (runs : List Run) → IsWritable extent joined sectors seqno numbers runs
    → is_own_group pool extent sectors joined (own_group pool extent sectors seqno numbers runs) ≡ true
own_is_own pool extent joined sectors seqno numbers runs is =
    let few = is.few in
    let joins = is.joins in
    let short = is.short in
    let count : length (map segment_of runs) ≡ length runs = length_map segment_of runs in
    rw (
      same_bytes group_name,
      same_bytes (text_id (group_id pool)),
      eq-eqb extent extent refl,
      lt-ltb seqno (2 ^ 63) is.room,
      are_own_pvs pool extent joined sectors 0 numbers (omega arith) (omega arith) is.holds,
      all_differ pool sectors 0 numbers (omega arith),
      same_bytes lv_name,
      same_bytes (text_id (lv_id pool)),
      le-leb (length (map segment_of runs)) 1024 (omega arith),
      they_follow numbers 0 runs is.few is.within is.row,
      runs_back numbers runs is.few is.within,
      they_lie pool sectors numbers runs is.few is.within,
      is.apart,
    ) refl
