-- The text of a pool's group is short enough to stand before the first extent.
use Rattle.std.proofs.Common.{◌≡◌, ℕ, zero, suc, ◌+◌, ◌*◌, ◌^◌, ◌<◌, ◌≤◌, ◌==◌, true, false, List, [], ◌∷◌, None, Some, length, length-append, length-take, map, arith, refl, subst}
use Rattle.std.specs.Prelude.{codes, decimal, nat_le, nat_lt, Option, slice_get}
use Rattle.std.specs.List.{AllByRecursion, flat_map, list_all}
use Rattle.std.specs.Option.{option_map_or}
use Rattle.std.proofs.lemmas.Bool.{both_ways, eqb-true, leb-true}
use Rattle.std.proofs.lemmas.Fmt.{length-decimal-le}
use Rattle.std.proofs.lemmas.Nat.{mul-le}
use Rattle.rack.specs.Seen.{RackView}
use Rattle.lvm_text.specs.Printed.{group_head, lv_text, number_line, opening, printed, pv_text, segment_text, segments_text, stripes_line, text_line}
use Rattle.lvm_group.specs.declared.runs.Run.{Run}
use Rattle.lvm_group.specs.Extending.{next_group, next_seqno}
use Rattle.lvm_group.specs.Growth.{AreBelow, fits, grown, is_within, pieces}
use Rattle.lvm_group.specs.Ids.{group_id, lv_id, parted, pv_id, text_id}
use Rattle.lvm_group.specs.Own.{in_row, own_group, own_lv, own_pv, own_pvs, segment_of}
use Rattle.lvm_group.specs.Runs.{extents_of, IsOrderly, Linear}
use Rattle.lvm_group.specs.Shown.{IsInside}
use Rattle.lvm_group.proofs.Counted.{no_more_sectors}
use Rattle.lvm_group.proofs.Extended.{fits_parts}
use Rattle.lvm_group.proofs.GrownRuns.{grown_row, grown_within}
use Rattle.lvm_group.proofs.OwnText.{length_map, small_array}
use Rattle.lvm_group.proofs.Passed.{both}
use Rattle.lvm_group.proofs.Totals.{in_total}

-- ---- lines

digits : (n : ℕ) → n < 2 ^ 64 → length (decimal n) ≤ 20
digits n small = length-decimal-le 20 n (omega arith) (omega arith) small

line_short : (key : List ℕ) (n : ℕ) → n < 2 ^ 64 → length (number_line key n) ≤ length key + 24
unfolding number_line
line_short key n small = let few = digits n small in simp length-append (omega arith)

text_long : (key text : List ℕ) → length (text_line key text) ≡ length key + length text + 6
unfolding text_line
text_long key text = simp length-append (omega arith)

parted_short : (bytes : List ℕ) → length (parted bytes) ≤ 38
unfolding parted
parted_short bytes = simp (length-append, length-take) (omega arith)

id_short : (bytes : List ℕ) → length (text_id bytes) ≤ 38
id_short bytes = parted_short _

-- ---- an array

pv_short : (pool : List ℕ) (sectors array number : ℕ) → array < 2 ^ 64 → sectors < 2 ^ 64 → number < 2 ^ 64 → length (pv_text (own_pv pool sectors array number)) ≤ 256
unfolding pv_text opening
pv_short pool sectors array number a s n =
    let name = digits array a in
    let id = id_short (pv_id pool array) in
    let one = line_short (codes "dev_size") sectors s in
    let two = line_short (codes "pe_start") 2048 (omega arith) in
    let three = line_short (codes "pe_count") number n in
    let line = text_long (codes "id") (text_id (pv_id pool array)) in
    simp length-append (omega arith)

pvs_short : (pool : List ℕ) (sectors : ℕ → ℕ) (array : ℕ) (numbers : List ℕ) → array + length numbers < 2 ^ 64 → ((n : ℕ) → n < array + length numbers → sectors n < 2 ^ 64) → AllByRecursion (λ number. number < 2 ^ 64) numbers
    → length (flat_map pv_text (own_pvs pool sectors array numbers)) ≤ 256 * length numbers
unfolding own_pvs
pvs_short pool sectors array [] few sized below = omega arith
pvs_short pool sectors array (number ∷ others) few sized below =
    let one = pv_short pool (sectors array) array number (omega arith) (sized array (omega arith)) below.0 in
    let rest = pvs_short pool sectors (array + 1) others (omega arith) (λ n low. sized n (omega (arith, low))) below.1 in
    simp length-append (omega arith)

-- ---- a run

pub record IsSmallRun (run : Run) : Type 0 where
  pub start : run.start < 2 ^ 64
  pub count : run.count < 2 ^ 64
  pub array : run.array < 2 ^ 64
  pub first : run.first < 2 ^ 64

run_short : (number : ℕ) (run : Run) → number < 2 ^ 64 → IsSmallRun run → length (segment_text number (segment_of run)) ≤ 224
unfolding segment_text opening stripes_line
run_short number run small is =
    let name = digits number small in
    let array = digits run.array is.array in
    let first = digits run.first is.first in
    let one = line_short (codes "start_extent") run.start is.start in
    let two = line_short (codes "extent_count") run.count is.count in
    simp length-append (omega arith)

runs_short : (number : ℕ) (runs : List Run) → number + length runs < 2 ^ 64 → AllByRecursion IsSmallRun runs → length (segments_text number (map segment_of runs)) ≤ 224 * length runs
unfolding segments_text
runs_short number [] few are = omega arith
runs_short number (run ∷ others) few are =
    let one = run_short number run (omega arith) are.0 in
    let rest = runs_short (number + 1) others (omega arith) are.1 in
    simp length-append (omega arith)

-- ---- the group

head_short : (pool : List ℕ) (extent : ℕ) (sectors : ℕ → ℕ) (seqno : ℕ) (numbers : List ℕ) (runs : List Run) → extent < 2 ^ 64 → seqno < 2 ^ 64
    → length (group_head (own_group pool extent sectors seqno numbers runs)) ≤ 512
unfolding group_head opening
head_short pool extent sectors seqno numbers runs e s =
    let line = text_long (codes "id") (text_id (group_id pool)) in
    let id = id_short (group_id pool) in
    let one = line_short (codes "seqno") seqno s in
    let two = line_short (codes "extent_size") extent e in
    simp length-append (omega arith)

lv_short : (pool : List ℕ) (runs : List Run) → length runs ≤ 1024 → AllByRecursion IsSmallRun runs → length (lv_text (own_lv pool runs)) ≤ 512 + 224 * length runs
unfolding lv_text opening
lv_short pool runs few are =
    let line = text_long (codes "id") (text_id (lv_id pool)) in
    let id = id_short (lv_id pool) in
    let many = length_map segment_of runs in
    let count = line_short (codes "segment_count") (length (map segment_of runs)) (omega arith) in
    let segments = runs_short 1 runs (omega arith) are in
    simp length-append (omega arith)

pub group_short : (pool : List ℕ) (extent : ℕ) (sectors : ℕ → ℕ) (seqno : ℕ) (numbers : List ℕ) (runs : List Run) → extent < 2 ^ 64 → seqno < 2 ^ 64 → length numbers ≤ 16 → length runs ≤ 1024
    → ((n : ℕ) → n < length numbers → sectors n < 2 ^ 64) → AllByRecursion (λ number. number < 2 ^ 64) numbers → AllByRecursion IsSmallRun runs
    → length (printed (own_group pool extent sectors seqno numbers runs)) ≤ 262144
unfolding printed opening
group_short pool extent sectors seqno numbers runs e s few short sized below are =
    let head = head_short pool extent sectors seqno numbers runs e s in
    let pvs = pvs_short pool sectors 0 numbers (omega arith) (λ n low. sized n (omega (arith, low))) below in
    let lv = lv_short pool runs short are in
    simp length-append (omega arith)

-- ---- an extension

number_below : (numbers : List ℕ) (place number : ℕ) → AreBelow numbers → slice_get numbers place ≡ Some number → number < 2 ^ 45
number_below [] place number below at = cc
number_below (first ∷ others) zero number below at = let is : first ≡ number = cc in subst (λ n. n < 2 ^ 45) is below.0
number_below (first ∷ others) (suc place) number below at = number_below others place number below.1 at

ends_below : (numbers : List ℕ) (run : Run) (o : Option ℕ) → slice_get numbers run.array ≡ o → AreBelow numbers → is_within numbers run ≡ true → run.first + run.count < 2 ^ 45
ends_below numbers run None at below within =
    let none = (both (nat_lt 0 run.count) (option_map_or (λ number. nat_le (run.first + run.count) number) (slice_get numbers run.array) false) within).1 in
    absurd (both_ways false refl (rw at at none))
ends_below numbers run (Some number) at below within =
    let inside = (both (nat_lt 0 run.count) (option_map_or (λ number. nat_le (run.first + run.count) number) (slice_get numbers run.array) false) within).1 in
    let most = leb-true (run.first + run.count) number (rw at at inside) in
    let small = number_below numbers run.array number below at in
    omega arith

small_runs : (from : ℕ) (runs : List Run) (numbers : List ℕ) → AreBelow numbers → length numbers ≤ 16 → list_all (is_within numbers) runs ≡ true → in_row from runs ≡ true
    → from + 2 ^ 45 * length runs < 2 ^ 64 → AllByRecursion IsSmallRun runs
unfolding in_row
small_runs from [] numbers below few within row room = tt
small_runs from (run ∷ others) numbers below few within row room =
    let first = both (is_within numbers run) (list_all (is_within numbers) others) within in
    let is = both (run.start == from) (in_row (from + run.count) others) row in
    let begins = eqb-true run.start from is.0 in
    let ends = ends_below numbers run (slice_get numbers run.array) refl below first.0 in
    let array = small_array numbers run few first.0 in (
      record { start = omega arith; count = omega arith; array = omega arith; first = omega arith },
      small_runs (from + run.count) others numbers below few first.1 is.1 (omega arith),
    )

numbers_small : (numbers : List ℕ) → AreBelow numbers → AllByRecursion (λ number. number < 2 ^ 64) numbers
numbers_small [] below = tt
numbers_small (number ∷ others) below = (let one = below.0 in omega arith, numbers_small others below.1)

-- The text of an extension.
pub next_short : (pool : List ℕ) (l : Linear) (sectors : ℕ → ℕ) (seqno : ℕ) (numbers : List ℕ) → in_row 0 l.runs ≡ true → fits l.runs numbers ≡ true → length numbers ≤ 16 → AreBelow numbers
    → l.extent < 2 ^ 64 → ((n : ℕ) → n < length numbers → sectors n < 2 ^ 64) → length (printed (next_group pool l sectors seqno numbers)) ≤ 262144
next_short pool l sectors seqno numbers row fitting few below sized arrays =
    let parts = fits_parts l.runs numbers fitting in
    let short = parts.1 in
    group_short pool l.extent sectors (next_seqno seqno) numbers (grown l.runs numbers) sized (omega arith) few parts.1 arrays (numbers_small numbers below)
    (small_runs 0 (grown l.runs numbers) numbers below few (grown_within l.runs numbers parts.0) (grown_row 0 (extents_of l.runs) l.runs (pieces 0 l.runs numbers) (omega arith) row) (omega arith))

-- By its arrays: a volume that has an extent lies inside them, and each number is one of theirs.
pub extension_short : (pool : List ℕ) (l : Linear) (a : RackView) (seqno : ℕ) (numbers : List ℕ) → IsOrderly l → IsInside l a → in_row 0 l.runs ≡ true → 0 < extents_of l.runs
    → fits l.runs numbers ≡ true → length numbers ≤ 16 → length numbers ≤ a.disks → AreBelow numbers → length (printed (next_group pool l a.sectors seqno numbers)) ≤ 262144
extension_short pool l a seqno numbers orderly inside row some fitting few arrays below =
    let most = no_more_sectors l a orderly inside in
    let one = mul-le 1 l.extent (extents_of l.runs) l.extent some (omega arith) in
    let small = inside.small in
    next_short pool l a.sectors seqno numbers row fitting few below (omega arith)
    (λ n low. let each = in_total a.sectors a.disks n (omega (arith, low, arrays)) in omega (arith, each, small))
