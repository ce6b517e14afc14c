-- Bytes of an array that lie in a row, sector by sector.
use Rattle.std.proofs.Common.{◌≡◌, ℕ, zero, suc, ◌+◌, ◌*◌, ◌/◌, ◌%◌, ◌<◌, ◌≤◌, ◌++◌, List, [], ◌∷◌, Option, Some, None, inl, inr, refl, sym, ap, ◌∙◌, append_assoc, arith}
use Rattle.std.proofs.lemmas.Bool.{cases_eq}
use Rattle.std.specs.Prelude.{length, take, drop, slice_get}
use Rattle.std.proofs.lemmas.Nat.{div-mul-add, mod-mul-add}
use Rattle.lvm_group.specs.Parts.{Array, byte_at, with_byte, row_at, behind}

-- behind nothing
pub behind_none : (o : Option (List ℕ)) → behind [] o ≡ o
behind_none None = refl
behind_none (Some bytes) = refl

-- behind a byte and others
behind_byte : (byte : ℕ) (front : List ℕ) (o : Option (List ℕ)) → with_byte (Some byte) (behind front o) ≡ behind (byte ∷ front) o
behind_byte byte front None = refl
behind_byte byte front (Some bytes) = refl

-- behind two lists
pub behind_twice : (front more : List ℕ) (o : Option (List ℕ)) → behind front (behind more o) ≡ behind (front ++ more) o
behind_twice front more None = refl
behind_twice front more (Some bytes) = ap (λ (xs : List ℕ). Some xs) (sym (append_assoc front more bytes))

-- a byte of a list, before those after it
byte_first : (bytes : List ℕ) (i : ℕ) → i < length bytes → (byte : ℕ) × (slice_get bytes i ≡ Some byte) × (drop i bytes ≡ byte ∷ drop (suc i) bytes)
byte_first [] i within = absurd (omega arith)
byte_first (byte ∷ bytes) zero within = (byte, refl, refl)
byte_first (byte ∷ bytes) (suc i) within = let rest = byte_first bytes i (omega arith) in (rest.0, rest.1, rest.2)

-- a row begins with the bytes of its first sector
pub row_piece : (c : Array) (sector i count rest place next total : ℕ) → place ≡ sector * 512 + i → next ≡ place + count → total ≡ count + rest
    → i + count ≤ length (c sector) → i + count ≤ 512
    → row_at c place total ≡ behind (take count (drop i (c sector))) (row_at c next rest)
unfolding row_at
row_piece c sector i zero rest place next total place_is next_is total_is within short =
    let same : place ≡ next = omega arith in
    let all : total ≡ rest = omega arith in
    (λ j. row_at c (same j) (all j)) ∙ sym (behind_none (row_at c next rest))
row_piece c sector i (suc count) rest place next total place_is next_is total_is within short =
    let byte = byte_first (c sector) i (omega arith) in
    let number : place / 512 ≡ sector = rw place_is (div-mul-add sector 512 i (omega arith)) in
    let offset : place % 512 ≡ i = rw place_is (mod-mul-add sector 512 i (omega arith)) in
    let here : byte_at c place ≡ Some byte.0 = (λ j. slice_get (c (number j)) (offset j)) ∙ byte.1 in
    let whole : total ≡ suc (count + rest) = omega arith in
    let others = row_piece c sector (suc i) count rest (place + 1) next (count + rest) (omega arith) (omega arith) refl (omega arith) (omega arith) in
    ap (row_at c place) whole ∙ (λ j. with_byte (here j) (others j)) ∙ behind_byte byte.0 (take count (drop (suc i) (c sector))) (row_at c next rest)
    ∙ ap (λ (xs : List ℕ). behind (take (suc count) xs) (row_at c next rest)) (sym byte.2)

-- a row that lacks a byte isn't there
lacks : (byte : Option ℕ) → with_byte byte None ≡ None
lacks None = refl
lacks (Some byte) = refl

pub row_none : (c : Array) (from count place : ℕ) → from ≤ place → place < from + count → byte_at c place ≡ None → row_at c from count ≡ None
unfolding row_at
row_none c from zero place after before none = absurd (omega arith)
row_none c from (suc count) place after before none = elim (cases_eq from place) [
  | inl here ↦ rw (here, none) refl
  | inr other ↦ rw (row_none c (from + 1) count place (omega arith) (omega arith) none) (lacks (byte_at c from))
]
