-- A grown volume keeps the places of its old extents.
use Rattle.std.proofs.Common.{◌≡◌, ℕ, ◌+◌, ◌*◌, ◌/◌, ◌%◌, ◌<◌, ◌≤◌, ◌==◌, Bool, true, false, List, [], ◌∷◌, refl, sym, ap, ◌∙◌, inl, inr, arith}
use Rattle.std.proofs.lemmas.Bool.{cases_lt, eqb-true}
use Rattle.lvm_group.specs.declared.runs.Run.{Run}
use Rattle.lvm_group.specs.declared.growth.Piece.{Piece}
use Rattle.lvm_group.specs.Extending.{KeepsPlaces, extended}
use Rattle.lvm_group.specs.Growth.{adjoins, behind_runs, grown, longer, pieces, started}
use Rattle.lvm_group.specs.Laws.{extent_below}
use Rattle.lvm_group.specs.Own.{in_row}
use Rattle.lvm_group.specs.Runs.{IsOrderly, Linear, Place, data_start, extents_of, has_extent, place_in, place_of}
use Rattle.lvm_group.proofs.Found.{has_it, lacks_it}
use Rattle.lvm_group.proofs.Passed.{both}

-- by the first run or the others
place_first : (run : Run) (others : List Run) (extent : ℕ) → has_extent extent run ≡ true → place_of (run ∷ others) extent ≡ place_in extent run
place_first run others extent has = rw has refl

place_later : (run : Run) (others : List Run) (extent : ℕ) → has_extent extent run ≡ false → place_of (run ∷ others) extent ≡ place_of others extent
place_later run others extent lacks = rw lacks refl

-- the last run, longer or not
kept_last : (start : ℕ) (run : Run) (piece : Piece) (others : List Piece) (extent : ℕ) (joins : Bool) → adjoins run piece ≡ joins → run.start ≤ extent → extent < run.start + run.count
    → place_of (behind_runs start (run ∷ []) (piece ∷ others)) extent ≡ place_in extent run
unfolding behind_runs
kept_last start run piece others extent true joins from to =
    rw joins (place_first (longer run piece.count) (started (start + piece.count) others) extent (has_it (longer run piece.count) extent from (omega arith)))
kept_last start run piece others extent false joins from to = rw joins (place_first run (started start (piece ∷ others)) extent (has_it run extent from to))

kept_place : (start from : ℕ) (runs : List Run) (more : List Piece) (extent : ℕ) → in_row from runs ≡ true → from ≤ extent → extent < from + extents_of runs
    → place_of (behind_runs start runs more) extent ≡ place_of runs extent
unfolding behind_runs in_row
kept_place start from [] more extent row least most = absurd (omega arith)
kept_place start from (run ∷ next ∷ others) more extent row least most =
    let is = both (run.start == from) (in_row (from + run.count) (next ∷ others)) row in
    let begins = eqb-true run.start from is.0 in
    elim (cases_lt extent (run.start + run.count)) [
      | inl inside ↦
          let has = has_it run extent (omega arith) inside in
          place_first run (behind_runs start (next ∷ others) more) extent has ∙ sym (place_first run (next ∷ others) extent has)
      | inr past ↦
          let lacks = lacks_it run extent past in
          place_later run (behind_runs start (next ∷ others) more) extent lacks ∙ kept_place start (from + run.count) (next ∷ others) more extent is.1 (omega arith) (omega arith)
          ∙ sym (place_later run (next ∷ others) extent lacks)
    ]
kept_place start from (run ∷ []) [] extent row least most = refl
kept_place start from (run ∷ []) (piece ∷ others) extent row least most =
    let begins = eqb-true run.start from (both (run.start == from) true row).0 in
    let has = has_it run extent (omega arith) (omega arith) in
    kept_last start run piece others extent (adjoins run piece) refl (omega arith) (omega arith) ∙ sym (place_first run [] extent has)

pub extended_keeps : (l : Linear) (numbers : List ℕ) → IsOrderly l → in_row 0 l.runs ≡ true → KeepsPlaces l (extended l numbers)
extended_keeps l numbers orderly row = λ sector within.
    let below = extent_below l sector orderly within in
    let same : place_of (grown l.runs numbers) (sector / l.extent) ≡ place_of l.runs (sector / l.extent) =
    kept_place (extents_of l.runs) 0 l.runs (pieces 0 l.runs numbers) (sector / l.extent) row (omega arith) (omega arith) in
    (ap (λ (place : Place). place.array) same, ap (λ (place : Place). data_start + place.extent * l.extent + sector % l.extent) same)
