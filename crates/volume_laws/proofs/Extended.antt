-- An extended volume goes on with the old one: what is new lies behind the extents that each array has in it.
use Rattle.std.proofs.Common.{◌≡◌, ℕ, ◌+◌, ◌-◌, ◌/◌, ◌<◌, ◌≤◌, ◌==◌, Bool, true, false, List, [], ◌∷◌, refl, sym, subst, inl, inr, arith, ◌∙◌}
use Rattle.std.specs.List.{AllByRecursion}
use Rattle.std.proofs.lemmas.Bool.{cases_lt, eqb-true, le-ltb, lt-ltb}
use Rattle.std.proofs.lemmas.Nat.{le-div, mul-le, div_below}
use Rattle.rack.specs.Seen.{RackView}
use Rattle.lvm_group.specs.declared.runs.Run.{Run}
use Rattle.lvm_group.specs.Extending.{extended}
use Rattle.lvm_group.specs.Growth.{adjoins, behind_runs, grown, longer, pieces, reach, run_of_piece, started}
use Rattle.lvm_group.specs.Own.{in_row}
use Rattle.lvm_group.specs.Runs.{array_of, extents_of, has_extent, IsOrderly, Linear, Place, place_in, place_of, sector_of, sectors_in}
use Rattle.lvm_group.specs.Shown.{IsInside, volume_of}
use Rattle.lvm_group.proofs.Found.{has_it, lacks_it}
use Rattle.lvm_group.proofs.KeptPlaces.{extended_keeps}
use Rattle.lvm_group.proofs.Passed.{both}
use Rattle.volume_laws.specs.Lengthening.{end_of, GoesOn, HoldsZeros}
use Rattle.volume_laws.proofs.NewSectors.{new_sectors_zero}

-- a place is behind the extents that its array has in runs
abbrev IsBehind : List Run → Place → Type 0
IsBehind all place = reach place.array all ≤ place.extent

-- runs begin where those of their arrays end
abbrev BeginThere : List Run → List Run → Type 0
BeginThere all runs = AllByRecursion (λ (run : Run). run.first ≡ reach run.array all) runs

begin_there : (array start : ℕ) (runs : List Run) (numbers : List ℕ) → BeginThere runs (started start (pieces array runs numbers))
unfolding pieces started
begin_there array start runs [] = tt
begin_there array start runs (number ∷ others) = elim (cases_lt (reach array runs) number) [
  | inl more ↦ rw (lt-ltb (reach array runs) number more) (refl, begin_there (array + 1) (start + (number - reach array runs)) runs others)
  | inr same ↦ rw (le-ltb (reach array runs) number same) (begin_there (array + 1) start runs others)
]

-- by the first run or the others
pub place_first : (run : Run) (others : List Run) (extent : ℕ) → has_extent extent run ≡ true → place_of (run ∷ others) extent ≡ place_in extent run
place_first run others extent has = rw has refl

pub place_later : (run : Run) (others : List Run) (extent : ℕ) → has_extent extent run ≡ false → place_of (run ∷ others) extent ≡ place_of others extent
place_later run others extent lacks = rw lacks refl

-- ---- where new extents lie

behind_started : (all : List Run) (start : ℕ) (more : List _) (extent : ℕ) → BeginThere all (started start more) → start ≤ extent → extent < start + extents_of (started start more)
    → IsBehind all (place_of (started start more) extent)
unfolding started
behind_started all start [] extent there from to = absurd (omega arith)
behind_started all start (piece ∷ others) extent there from to = elim (cases_lt extent (start + piece.count)) [
  | inl inside ↦
      let first : piece.first ≡ reach piece.array all = there.0 in
      subst (IsBehind all) (sym (place_first (run_of_piece start piece) (started (start + piece.count) others) extent (has_it (run_of_piece start piece) extent from inside))) (omega arith)
  | inr past ↦
      subst (IsBehind all) (sym (place_later (run_of_piece start piece) (started (start + piece.count) others) extent (lacks_it (run_of_piece start piece) extent past)))
      (behind_started all (start + piece.count) others extent there.1 past (omega arith))
]

-- the last run, longer or not
behind_last : (all : List Run) (start : ℕ) (run : Run) (piece : _) (others : List _) (extent : ℕ) (joins : Bool) → adjoins run piece ≡ joins
    → BeginThere all (started start (piece ∷ others)) → start ≡ run.start + run.count → start ≤ extent → extent < run.start + extents_of (behind_runs start (run ∷ []) (piece ∷ others))
    → IsBehind all (place_of (behind_runs start (run ∷ []) (piece ∷ others)) extent)
unfolding behind_runs started
behind_last all start run piece others extent true joins there end from to =
    let is = both (run.array == piece.array) (run.first + run.count == piece.first) joins in
    let array = eqb-true run.array piece.array is.0 in
    let first = eqb-true (run.first + run.count) piece.first is.1 in
    let reached : piece.first ≡ reach run.array all = subst (λ n. piece.first ≡ reach n all) (sym array) there.0 in
    let most : extent < run.start + (run.count + piece.count + extents_of (started (start + piece.count) others)) = rw joins at to in
    rw joins (elim (cases_lt extent (run.start + (run.count + piece.count))) [
      | inl inside ↦
          subst (IsBehind all) (sym (place_first (longer run piece.count) (started (start + piece.count) others) extent (has_it (longer run piece.count) extent (omega arith) inside))) (omega arith)
      | inr past ↦
          subst (IsBehind all) (sym (place_later (longer run piece.count) (started (start + piece.count) others) extent (lacks_it (longer run piece.count) extent past)))
          (behind_started all (start + piece.count) others extent there.1 (omega arith) (omega arith))
    ])
behind_last all start run piece others extent false joins there end from to =
    let most : extent < run.start + (run.count + extents_of (started start (piece ∷ others))) = rw joins at to in
    rw joins (subst (IsBehind all) (sym (place_later run (started start (piece ∷ others)) extent (lacks_it run extent (omega arith))))
    (behind_started all start (piece ∷ others) extent there from (omega arith)))

behind_all : (all : List Run) (start from : ℕ) (runs : List Run) (more : List _) (extent : ℕ) → in_row from runs ≡ true → start ≡ from + extents_of runs
    → BeginThere all (started start more) → start ≤ extent → extent < from + extents_of (behind_runs start runs more) → IsBehind all (place_of (behind_runs start runs more) extent)
unfolding behind_runs in_row
behind_all all start from [] more extent row end there least most = behind_started all start more extent there least (omega arith)
behind_all all start from (run ∷ next ∷ others) more extent row end there least most =
    let is = both (run.start == from) (in_row (from + run.count) (next ∷ others)) row in
    let begins = eqb-true run.start from is.0 in
    subst (IsBehind all) (sym (place_later run (behind_runs start (next ∷ others) more) extent (lacks_it run extent (omega arith))))
    (behind_all all start (from + run.count) (next ∷ others) more extent is.1 (omega arith) there least (omega arith))
behind_all all start from (run ∷ []) [] extent row end there least most = absurd (omega arith)
behind_all all start from (run ∷ []) (piece ∷ others) extent row end there least most =
    let begins = eqb-true run.start from (both (run.start == from) true row).0 in
    behind_last all start run piece others extent (adjoins run piece) refl there (omega arith) least (omega arith)

-- ---- how many there are

more_last : (start : ℕ) (run : Run) (piece : _) (others : List _) (joins : Bool) → adjoins run piece ≡ joins → run.count ≤ extents_of (behind_runs start (run ∷ []) (piece ∷ others))
unfolding behind_runs
more_last start run piece others true joins = rw joins (omega arith)
more_last start run piece others false joins = rw joins (omega arith)

more_extents : (start : ℕ) (runs : List Run) (more : List _) → extents_of runs ≤ extents_of (behind_runs start runs more)
unfolding behind_runs
more_extents start [] more = omega arith
more_extents start (run ∷ next ∷ others) more = let rest = more_extents start (next ∷ others) more in omega arith
more_extents start (run ∷ []) [] = omega arith
more_extents start (run ∷ []) (piece ∷ others) = let last = more_last start run piece others (adjoins run piece) refl in omega arith

-- ---- the extended volume

pub goes_on_same : (l : Linear) → GoesOn l l
goes_on_same l = record { places = λ s within. (refl, refl); longer = omega arith }

-- one map goes on with another, and a third with that
pub goes_on_then : (l m o : Linear) → GoesOn l m → GoesOn m o → GoesOn l o
goes_on_then l m o one two = record {
  places = λ s within.
      let first = one.places s within in
      let more = one.longer in
      let second = two.places s (omega arith) in
      (second.0 ∙ first.0, second.1 ∙ first.1);
  longer = let first = one.longer in let second = two.longer in omega arith;
}

pub goes_on_extended : (l : Linear) (numbers : List ℕ) → IsOrderly l → in_row 0 l.runs ≡ true → GoesOn l (extended l numbers)
goes_on_extended l numbers orderly row = record {
  places = extended_keeps l numbers orderly row;
  longer = mul-le (extents_of l.runs) l.extent (extents_of (grown l.runs numbers)) l.extent (more_extents (extents_of l.runs) l.runs (pieces 0 l.runs numbers)) (omega arith);
}

-- The sectors that come lie behind the extents that their array has in the old volume.
pub extended_behind : (l : Linear) (numbers : List ℕ) (s : ℕ) → IsOrderly l → in_row 0 l.runs ≡ true → sectors_in l ≤ s → s < sectors_in (extended l numbers)
    → end_of l (array_of (extended l numbers) s) ≤ sector_of (extended l numbers) s
extended_behind l numbers s orderly row past within =
    let place = place_of (grown l.runs numbers) (s / l.extent) in
    let behind : reach place.array l.runs ≤ place.extent =
    behind_all l.runs (extents_of l.runs) 0 l.runs (pieces 0 l.runs numbers) (s / l.extent) row (omega arith) (begin_there 0 (extents_of l.runs) l.runs numbers)
    (le-div (extents_of l.runs) s l.extent orderly.sized past) (omega (arith, div_below s l.extent (extents_of (grown l.runs numbers)) orderly.sized within)) in
    let sectors = mul-le (reach place.array l.runs) l.extent place.extent l.extent behind (omega arith) in
    omega arith

-- So they hold zeros where each array does behind those extents.
pub extended_zeros : (l : Linear) (numbers : List ℕ) (b : RackView) → IsOrderly l → in_row 0 l.runs ≡ true → IsOrderly (extended l numbers) → IsInside (extended l numbers) b
    → ((n : ℕ) → n < (extended l numbers).arrays → HoldsZeros b n (end_of l n)) → HoldsZeros (volume_of (extended l numbers) b) 0 (sectors_in l)
extended_zeros l numbers b orderly row next inside zeros =
    new_sectors_zero (extended l numbers) b (sectors_in l) (end_of l) next inside
    (λ s past within. extended_behind l numbers s orderly row past within) zeros
