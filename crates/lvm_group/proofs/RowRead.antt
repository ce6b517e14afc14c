-- Bytes of an array that were read sector by sector.
use Rattle.std.proofs.Common.{◌≡◌, ℕ, ◌+◌, ◌-◌, ◌*◌, ◌/◌, ◌%◌, ◌<◌, ◌≤◌, ◌++◌, List, [], None, inl, inr, refl, sym, ap, ◌∙◌, subst, length-drop, arith}
use Rattle.std.proofs.lemmas.List.{length-take-le}
use Rattle.std.specs.Prelude.{length, take, drop, slice_get, if◌then◌else◌}
use Rattle.std.proofs.lemmas.Bool.{cases_lt, lt-ltb, le-ltb}
use Rattle.std.proofs.lemmas.Nat.{le-div, div_below, div-add-mod'}
use Rattle.rack.specs.Seen.{RackView}
use Rattle.lvm_group.specs.Parts.{Array, byte_at, row_at, behind}
use Rattle.rack.specs.Sequences.{OnlyReads}
use Rattle.lvm_group.specs.Reading.{IsRead, AreRead, held_on}
use Rattle.lvm_group.proofs.Looking.{looks_same, read_longer, held_read, with_sector, sector_read}
use Rattle.lvm_group.proofs.HeaderRead.{has_sector}
use Rattle.lvm_group.proofs.Rows.{row_piece, row_none, behind_twice}

-- past the end there is no byte
past_end : (a : RackView) (array : ℕ) (now : Array) (place : ℕ) → 512 * a.sectors array ≤ place → byte_at (held_on a array now) place ≡ None
past_end a array now place past =
    let sector : a.sectors array ≤ place / 512 = le-div (a.sectors array) place 512 (omega arith) (omega arith) in
    ap (λ test. slice_get (if test then now (place / 512) else []) (place % 512)) (le-ltb (place / 512) (a.sectors array) sector)

pub row_past : (a : RackView) (array : ℕ) (now : Array) (from count : ℕ) → 0 < count → 512 * a.sectors array < from + count
    → (c : Array) × AreRead a a array now c × (row_at c from count ≡ None)
row_past a array now from count some past = (
  held_on a array now,
  held_read a a array now,
  elim (cases_lt from (512 * a.sectors array)) [
    | inl before ↦ row_none (held_on a array now) from count (512 * a.sectors array) (omega arith) past (past_end a array now (512 * a.sectors array) (omega arith))
    | inr behind ↦ row_none (held_on a array now) from count from (omega arith) (omega arith) (past_end a array now from behind)
  ],
)

-- a refused sector has no byte
pub row_refused : {a x b : RackView} (array : ℕ) (now : Array) (from count at : ℕ) → OnlyReads a x → OnlyReads x b → from ≤ at → at < from + count → IsRead x b array now (at / 512) []
    → (c : Array) × AreRead a b array now c × (row_at c from count ≡ None)
row_refused {a} {x} {b} array now from count at before after starts ends is = (
  with_sector (held_on a array now) (at / 512) [],
  sector_read array now (held_on a array now) (at / 512) [] (held_read a b array now) (read_longer array now (at / 512) [] before (looks_same b after.stays.fit) is),
  row_none (with_sector (held_on a array now) (at / 512) []) from count at starts ends
      (ap (λ (v : List ℕ). slice_get v (at % 512)) (has_sector (held_on a array now) (at / 512) [])),
)

-- a sector that was read is what the array holds
held_is : {a x b : RackView} (array : ℕ) (now : Array) (sector : ℕ) (bytes : List ℕ) → OnlyReads a x → sector < a.sectors array → 0 < length bytes → IsRead x b array now sector bytes
    → held_on a array now sector ≡ bytes
held_is {a} {x} {b} array now sector bytes before inside some is =
    elim (is.within (subst (λ n. sector < n) (sym (before.stays.sectors array)) inside)) [
      | inl same ↦ ap (λ test. if test then now sector else []) (lt-ltb sector (a.sectors array) inside) ∙ sym same
      | inr none ↦ let empty : length bytes ≡ 0 = ap length none.0 in absurd (omega arith)
    ]

-- so a row goes on behind the bytes read from it
pub row_on : {a x b : RackView} (array : ℕ) (now : Array) (at left piece : ℕ) (bytes front : List ℕ) → OnlyReads a x → at + left ≤ 512 * a.sectors array → 0 < left → length bytes ≡ 512
    → piece ≤ left → at % 512 + piece ≤ 512 → IsRead x b array now (at / 512) bytes
    → behind front (row_at (held_on a array now) at left) ≡ behind (front ++ take piece (drop (at % 512) bytes)) (row_at (held_on a array now) (at + piece) (left - piece))
row_on {a} {x} {b} array now at left piece bytes front before within some whole fits short is =
    let sector : at / 512 < a.sectors array = div_below at 512 (a.sectors array) (omega arith) (omega arith) in
    let same = held_is array now (at / 512) bytes before sector (omega arith) is in
    let long : length (held_on a array now (at / 512)) ≡ 512 = ap length same ∙ whole in
    let place : at ≡ at / 512 * 512 + at % 512 = sym (div-add-mod' at 512) in
    let piece_is = row_piece (held_on a array now) (at / 512) (at % 512) piece (left - piece) at (at + piece) left place refl (omega arith) (omega arith) short in
    ap (behind front) piece_is
    ∙ behind_twice front (take piece (drop (at % 512) (held_on a array now (at / 512)))) (row_at (held_on a array now) (at + piece) (left - piece))
    ∙ ap (λ (v : List ℕ). behind (front ++ take piece (drop (at % 512) v)) (row_at (held_on a array now) (at + piece) (left - piece))) same

-- a piece of some bytes
pub piece_long : (at piece : ℕ) (bytes : List ℕ) → at + piece ≤ length bytes → length (take piece (drop at bytes)) ≡ piece
piece_long at piece bytes within = length-take-le piece (drop at bytes) (omega (arith, length-drop at bytes))
