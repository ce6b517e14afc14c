-- The arrays hold zeros behind the extents that a volume has on them, over calls in a row.
use Rattle.std.proofs.Common.{◌≡◌, ℕ, ◌+◌, ◌/◌, ◌<◌, ◌≤◌, ◌==◌, Bool, true, false, List, [], ◌∷◌, refl, sym, subst, inl, inr, arith, eq-eqb}
use Rattle.std.specs.Prelude.{max}
use Rattle.std.proofs.lemmas.Bool.{cases_eq, cases_lt, eqb-true}
use Rattle.std.proofs.lemmas.Nat.{mod_below, mul-le}
use Rattle.rack.specs.Joins.{keeps_then}
use Rattle.rack.specs.Seen.{RackView}
use Rattle.rack.specs.Sequences.{WritesOnly}
use Rattle.rack.specs.Values.{only}
use Rattle.parity.specs.Xor.{zeros}
use Rattle.lvm_group.specs.declared.runs.Run.{Run}
use Rattle.lvm_group.specs.Extending.{extended}
use Rattle.lvm_group.specs.Framed.{IsShown}
use Rattle.lvm_group.specs.Growth.{adjoins, behind_runs, end_on, grown, longer, pieces, reach, started}
use Rattle.lvm_group.specs.Laws.{extent_below}
use Rattle.lvm_group.specs.Own.{in_row}
use Rattle.lvm_group.specs.Runs.{array_of, extents_of, IsOrderly, Linear, Place, place_in, place_of, sector_of, sectors_in}
use Rattle.lvm_group.proofs.Found.{has_it, lacks_it}
use Rattle.lvm_group.proofs.Passed.{both}
use Rattle.transition_laws.specs.Growth.{KeepsOldSectors}
use Rattle.volume_laws.specs.Lengthening.{end_of, HoldsZeros}
use Rattle.volume_laws.proofs.Beside.{zeros_beside}
use Rattle.volume_laws.proofs.Extended.{place_first, place_later}

-- ---- calls

-- from a later sector on
pub zeros_later : (x : RackView) (d first later : ℕ) → first ≤ later → HoldsZeros x d first → HoldsZeros x d later
zeros_later x d first later less zero s past within alive = zero s (omega (arith, past)) within alive

-- Disks that keep the sectors that they have, and hold zeros in those that they get.
pub zeros_kept : (count : ℕ) (a b : RackView) (d first : ℕ) → KeepsOldSectors count a b → d < count → a.told d → HoldsZeros b d (a.sectors d) → HoldsZeros a d first → HoldsZeros b d first
zeros_kept count a b d first keeps low told new zero s past within alive = elim (cases_lt s (a.sectors d)) [
  | inl inside ↦
      keeps_then (only (zeros 512)) (a.held d s) (b.held d s) (zero s past inside (keeps.spent d s low inside alive)) (keeps.held d s low told inside alive)
  | inr over ↦ new s over within alive
]

-- ---- where a volume's extents lie

end_here : (array : ℕ) (run : Run) → run.array ≡ array → end_on array run ≡ run.first + run.count
end_here array run same = rw (eq-eqb run.array array same) refl

end_elsewhere : (array : ℕ) (run : Run) → (run.array ≡ array → ⊥) → end_on array run ≡ 0
end_elsewhere array run differ = go (run.array == array) refl where
  go : (test : Bool) → (run.array == array) ≡ test → end_on array run ≡ 0
  go true is = absurd (differ (eqb-true run.array array is))
  go false is = rw is refl

-- a place is one of the extents that its array has in runs
abbrev IsBefore : List Run → Place → Type 0
IsBefore runs place = place.extent < reach place.array runs

in_first : (run : Run) (others : List Run) (extent : ℕ) → run.start ≤ extent → extent < run.start + run.count → IsBefore (run ∷ others) (place_in extent run)
unfolding reach
in_first run others extent from to = let end = end_here run.array run refl in omega arith

in_others : (run : Run) (others : List Run) (place : Place) → IsBefore others place → IsBefore (run ∷ others) place
unfolding reach
in_others run others place before = omega arith

before_end : (from : ℕ) (runs : List Run) (extent : ℕ) → in_row from runs ≡ true → from ≤ extent → extent < from + extents_of runs → IsBefore runs (place_of runs extent)
unfolding in_row
before_end from [] extent row least most = absurd (omega arith)
before_end from (run ∷ others) extent row least most =
    let is = both (run.start == from) (in_row (from + run.count) others) row in
    let begins = eqb-true run.start from is.0 in
    elim (cases_lt extent (run.start + run.count)) [
      | inl inside ↦
          subst (IsBefore (run ∷ others)) (sym (place_first run others extent (has_it run extent (omega arith) inside))) (in_first run others extent (omega arith) inside)
      | inr past ↦
          subst (IsBefore (run ∷ others)) (sym (place_later run others extent (lacks_it run extent past)))
          (in_others run others (place_of others extent) (before_end (from + run.count) others extent is.1 (omega arith) (omega arith)))
    ]

pub sector_before : (l : Linear) (s : ℕ) → IsOrderly l → in_row 0 l.runs ≡ true → s < sectors_in l → sector_of l s < end_of l (array_of l s)
sector_before l s orderly row within =
    let place = place_of l.runs (s / l.extent) in
    let inside = extent_below l s orderly within in
    let before : place.extent < reach place.array l.runs = before_end 0 l.runs (s / l.extent) row (omega arith) (omega arith) in
    let rest = mod_below s l.extent orderly.sized in
    let whole = mul-le (place.extent + 1) l.extent (reach place.array l.runs) l.extent (omega arith) (omega arith) in
    omega arith

-- So writes to the volume leave the zeros behind it.
pub zeros_written : (l : Linear) (a b : RackView) (n : ℕ) → IsOrderly l → in_row 0 l.runs ≡ true → WritesOnly a b (IsShown l) → n < a.disks → a.told n → HoldsZeros a n (end_of l n)
    → HoldsZeros b n (end_of l n)
zeros_written l a b n orderly row writes disk told zero =
    zeros_beside a b (IsShown l) writes n (end_of l n) disk told
    (λ y v past shown.
    let before : sector_of l shown.0 < end_of l n = subst (λ k. sector_of l shown.0 < end_of l k) (sym shown.2) (sector_before l shown.0 orderly row shown.1) in
    let sector = shown.3 in
    absurd (omega (arith, past))) zero

-- ---- an extension

end_grows : (array : ℕ) (run : Run) (more rest : ℕ) → max (end_on array run) 0 ≤ max (end_on array (longer run more)) rest
end_grows array run more rest = elim (cases_eq run.array array) [
  | inl same ↦ let one = end_here array run same in let two = end_here array (longer run more) same in omega arith
  | inr differ ↦ let none = end_elsewhere array run differ in omega arith
]

reach_started : (array start : ℕ) (run : Run) (piece : _) (others : List _) (joins : Bool) → adjoins run piece ≡ joins
    → reach array (run ∷ []) ≤ reach array (behind_runs start (run ∷ []) (piece ∷ others))
unfolding behind_runs reach
reach_started array start run piece others true joins = rw joins (end_grows array run piece.count (reach array (started (start + piece.count) others)))
reach_started array start run piece others false joins = rw joins (omega arith)

reach_grows : (array start : ℕ) (runs : List Run) (more : List _) → reach array runs ≤ reach array (behind_runs start runs more)
unfolding behind_runs reach
reach_grows array start [] more = omega arith
reach_grows array start (run ∷ next ∷ others) more = let rest = reach_grows array start (next ∷ others) more in omega arith
reach_grows array start (run ∷ []) [] = omega arith
reach_grows array start (run ∷ []) (piece ∷ others) = reach_started array start run piece others (adjoins run piece) refl

-- The extended volume has no fewer extents on an array.
pub extended_end : (l : Linear) (numbers : List ℕ) (n : ℕ) → end_of l n ≤ end_of (extended l numbers) n
extended_end l numbers n =
    let more = mul-le (reach n l.runs) l.extent (reach n (grown l.runs numbers)) l.extent (reach_grows n (extents_of l.runs) l.runs (pieces 0 l.runs numbers)) (omega arith) in
    omega arith
