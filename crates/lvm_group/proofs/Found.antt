-- The run that has an extent is the last one that starts at it or before.
use Rattle.std.proofs.Common.{◌≡◌, ℕ, zero, suc, ◌+◌, ◌<◌, ◌≤◌, ◌-◌, true, false, List, [], ◌∷◌, Some, refl, subst, arith}
use Rattle.std.specs.Prelude.{length, slice_get, nat_le, take, slice_index_or}
use Rattle.std.specs.List.Sorted.{IsNonDecreasingBy, IsPartitionPoint}
use Rattle.std.proofs.Common.{leb}
use Rattle.std.proofs.lemmas.Bool.{lt-ltb, le-ltb, le-leb, leb-true, leb-false}
use Rattle.std.proofs.lemmas.Option.{slice_get-get_or, get_or_from_slice_get, slice_get_within}
use Rattle.std.proofs.Math.Bool.{and-false}
use Rattle.lvm_group.specs.declared.runs.Run.{Run}
use Rattle.lvm_group.specs.Runs.{AreInOrder, extents_of, has_extent, run_of}

-- a run has the extents from its start on, as many as it counts
pub has_it : (run : Run) (extent : ℕ) → run.start ≤ extent → extent < run.start + run.count → has_extent extent run ≡ true
has_it run extent starts ends = rw (le-leb run.start extent starts, lt-ltb extent (run.start + run.count) ends) refl

-- and none behind them
pub lacks_it : (run : Run) (extent : ℕ) → run.start + run.count ≤ extent → has_extent extent run ≡ false
lacks_it run extent ends = rw (le-ltb extent (run.start + run.count) ends, and-false (nat_le run.start extent)) refl

-- the run at a place, where those up to it start at the extent or before, and the others behind
pub run_found : (runs : List Run) (start extent place : ℕ) (run : Run) → AreInOrder start runs → extent < start + extents_of runs
    → ((i : ℕ) (r : Run) → i ≤ place → slice_get runs i ≡ Some r → r.start ≤ extent)
    → ((i : ℕ) (r : Run) → place < i → slice_get runs i ≡ Some r → extent < r.start)
    → slice_get runs place ≡ Some run → run_of runs extent ≡ Some run
run_found [] start extent place run order within before behind at = cc
run_found (first ∷ []) start extent zero run order within before behind at =
    let starts = before 0 first (omega arith) refl in
    let here = order 0 first refl in
    rw (has_it first extent starts (omega arith)) at
run_found (first ∷ second ∷ others) start extent zero run order within before behind at =
    let starts = before 0 first (omega arith) refl in
    let next = behind 1 second (omega arith) refl in
    let here = order 0 first refl in
    let there = order 1 second refl in
    rw (has_it first extent starts (omega arith)) at
run_found (first ∷ []) start extent (suc place) run order within before behind at = cc
run_found (first ∷ second ∷ others) start extent (suc place) run order within before behind at =
    let next = before 1 second (omega arith) refl in
    let here = order 0 first refl in
    let there = order 1 second refl in
    rw (lacks_it first extent (omega arith))
    (run_found (second ∷ others) (start + first.count) extent place run (λ i r is. let on = order (suc i) r is in omega arith) (omega arith)
    (λ i r up is. before (suc i) r (omega arith) is) (λ i r past is. behind (suc i) r (omega arith) is) at)

-- ---- halving

none : (place : ℕ) → extents_of (take place []) ≡ 0
none zero = refl
none (suc place) = refl

-- runs before a place have no more extents than those before a later one
extents_rise : (runs : List Run) (place later : ℕ) → place ≤ later → extents_of (take place runs) ≤ extents_of (take later runs)
extents_rise [] place later up = omega (arith, none place, none later)
extents_rise (run ∷ runs) zero later up = omega arith
extents_rise (run ∷ runs) (suc place) zero up = absurd (omega arith)
extents_rise (run ∷ runs) (suc place) (suc later) up = let rest = extents_rise runs place later (omega arith) in omega arith

-- so they start in ascending order
pub starts_rise : (runs : List Run) (start : ℕ) → AreInOrder start runs → IsNonDecreasingBy (λ run. run.start) runs
starts_rise runs start order = λ i j d up within.
    let one = order i (slice_index_or runs i d) (slice_get-get_or runs i d (omega arith)) in
    let other = order j (slice_index_or runs j d) (slice_get-get_or runs j d (omega arith)) in
    let rise = extents_rise runs i j up in
    omega arith

abbrev pub IsPoint : ℕ → List Run → ℕ → Type 0
IsPoint extent runs place = IsPartitionPoint (λ run. leb run.start extent ≡ true) (λ run. leb run.start extent ≡ false) runs place

-- some run starts at the extent or before
pub not_first : (runs : List Run) (extent place : ℕ) → AreInOrder 0 runs → extent < extents_of runs → IsPoint extent runs place → 1 ≤ place
not_first [] extent place order within point = absurd (omega arith)
not_first (first ∷ others) extent zero order within point =
    let here = order 0 first refl in
    let past = leb-false first.start extent (point.1 0 first (omega arith) (omega arith)) in
    absurd (omega arith)
not_first (first ∷ others) extent (suc place) order within point = omega arith

-- the last of those has it
pub last_has : (runs : List Run) (extent place : ℕ) (d : Run) → AreInOrder 0 runs → extent < extents_of runs → 1 ≤ place → place ≤ length runs → IsPoint extent runs place
    → run_of runs extent ≡ Some (slice_index_or runs (place - 1) d)
last_has runs extent place d order within some bound point =
    run_found runs 0 extent (place - 1) (slice_index_or runs (place - 1) d) order (omega arith)
    (λ i r up is. subst (λ (x : Run). x.start ≤ extent) (get_or_from_slice_get runs i r d is) (leb-true _ _ (point.0 i d (omega arith) (omega arith))))
    (λ i r past is.
    let inside = slice_get_within runs i r is in
    subst (λ (x : Run). extent < x.start) (get_or_from_slice_get runs i r d is) (leb-false _ _ (point.1 i d (omega arith) (omega arith))))
    (slice_get-get_or runs (place - 1) d (omega arith))

-- and starts there or before
pub last_starts : (runs : List Run) (extent place : ℕ) (d : Run) → 1 ≤ place → place ≤ length runs → IsPoint extent runs place
    → (slice_index_or runs (place - 1) d).start ≤ extent
last_starts runs extent place d some bound point = leb-true _ _ (point.0 (place - 1) d (omega arith) (omega arith))
