-- A text that stands in an array is read there.
use Rattle.std.proofs.Common.{◌≡◌, ℕ, zero, suc, min, ◌+◌, ◌-◌, ◌*◌, ◌/◌, ◌%◌, ◌<◌, ◌≤◌, List, [], ◌∷◌, ◌++◌, Some, refl, sym, ap, ◌∙◌, inl, inr, arith, length, take, drop, replicate, append-nil}
use Rattle.std.specs.Prelude.{slice_get}
use Rattle.std.proofs.lemmas.Bool.{cases_lt, lt-ltb, le-ltb}
use Rattle.std.proofs.lemmas.List.{take_all, drop-drop, length-drop, take-append-drop}
use Rattle.lvm_label.specs.Fields.{padded}
use Rattle.lvm_group.specs.Parts.{Array, byte_at, row_at, text_at}
use Rattle.lvm_group.specs.Writing.{area_start, area_size, own_area, own_location, piece, place_at}

-- ---- lists

pub there_at : (xs : List ℕ) (i : ℕ) → i < length xs → (x : ℕ) × (slice_get xs i ≡ Some x)
there_at [] i below = absurd (omega arith)
there_at (x ∷ xs) zero below = (x, refl)
there_at (x ∷ xs) (suc i) below = there_at xs i (omega arith)

get_dropped : (n : ℕ) (xs : List ℕ) (i : ℕ) → slice_get (drop n xs) i ≡ slice_get xs (n + i)
get_dropped zero xs i = let same : i ≡ 0 + i = omega arith in ap (slice_get xs) same
get_dropped (suc n) [] i = refl
get_dropped (suc n) (x ∷ xs) i = let next : suc (n + i) ≡ suc n + i = omega arith in get_dropped n xs i ∙ ap (slice_get (x ∷ xs)) next

get_taken : (n : ℕ) (xs : List ℕ) (i : ℕ) → i < n → slice_get (take n xs) i ≡ slice_get xs i
get_taken zero xs i below = absurd (omega arith)
get_taken (suc n) [] i below = refl
get_taken (suc n) (x ∷ xs) zero below = refl
get_taken (suc n) (x ∷ xs) (suc i) below = get_taken n xs i (omega arith)

get_first : (xs ys : List ℕ) (i x : ℕ) → slice_get xs i ≡ Some x → slice_get (xs ++ ys) i ≡ Some x
get_first [] ys i x at = cc
get_first (y ∷ xs) ys zero x at = at
get_first (y ∷ xs) ys (suc i) x at = get_first xs ys i x at

dropped_at : (xs : List ℕ) (i x : ℕ) → slice_get xs i ≡ Some x → drop i xs ≡ x ∷ drop (suc i) xs
dropped_at [] i x at = cc
dropped_at (y ∷ xs) zero x at = cc
dropped_at (y ∷ xs) (suc i) x at = dropped_at xs i x at

-- ---- bytes in a row

piece_at : (text : List ℕ) (k r x : ℕ) → r < 512 → slice_get text (512 * k + r) ≡ Some x → slice_get (piece text k) r ≡ Some x
unfolding piece padded
piece_at text k r x below at =
    get_first (take 512 (drop (512 * k) text)) (replicate (512 - length (take 512 (drop (512 * k) text))) 0) r x
    (get_taken 512 (drop (512 * k) text) r below ∙ get_dropped (512 * k) text r ∙ at)

byte_holds : (a : Array) (s i x : ℕ) (text : List ℕ) → a (s + i / 512) ≡ piece text (i / 512) → slice_get text i ≡ Some x → byte_at a (512 * s + i) ≡ Some x
byte_holds a s i x text holds at =
    let sector : (512 * s + i) / 512 ≡ s + i / 512 = omega arith in
    let within : (512 * s + i) % 512 ≡ i % 512 = omega arith in
    let whole : 512 * (i / 512) + i % 512 ≡ i = omega arith in
    let here : slice_get (piece text (i / 512)) (i % 512) ≡ Some x = piece_at text (i / 512) (i % 512) x (omega arith) (ap (slice_get text) whole ∙ at) in
    rw (sector, within, holds) here

pub row_holds : (a : Array) (s : ℕ) (text : List ℕ) (i count : ℕ) → i + count ≤ length text → ((k : ℕ) → 512 * k < i + count → a (s + k) ≡ piece text k)
    → row_at a (512 * s + i) count ≡ Some (take count (drop i text))
unfolding row_at
row_holds a s text i zero short holds = refl
row_holds a s text i (suc count) short holds =
    let here = there_at text i (omega arith) in
    let byte = byte_holds a s i here.0 text (holds (i / 512) (omega arith)) here.1 in
    let next : 512 * s + i + 1 ≡ 512 * s + suc i = omega arith in
    let rest = row_holds a s text (suc i) count (omega arith) (λ k below. holds k (omega arith)) in
    rw (byte, next, rest, dropped_at text i here.0 here.1) refl

-- ---- the whole text

row_none : (a : Array) (place count : ℕ) → count ≡ 0 → row_at a place count ≡ Some []
unfolding row_at
row_none a place count none = rw none refl

-- before the end of the area
front_place : (first k : ℕ) → first + k < 2040 → place_at first k ≡ 8 + first + k
front_place first k below = rw (lt-ltb (first + k) 2040 below) (omega arith)

-- and past it
back_place : (first k : ℕ) → first < 2040 → place_at first (2040 - first + k) ≡ 9 + k
back_place first k below = rw (le-ltb (first + (2040 - first + k)) 2040 (omega arith)) (omega arith)

piece_dropped : (text : List ℕ) (n k : ℕ) → piece (drop (512 * n) text) k ≡ piece text (n + k)
unfolding piece
piece_dropped text n k =
    let sum : 512 * n + 512 * k ≡ 512 * (n + k) = omega arith in
    ap (λ (rest : List ℕ). padded 512 (take 512 rest)) (drop-drop (512 * k) (512 * n) text ∙ ap (λ m. drop m text) sum)

-- its sectors stand behind each other
abbrev pub Stands : Array → ℕ → List ℕ → Type 0
Stands a first text = (k : ℕ) → 512 * k < length text → a (place_at first k) ≡ piece text k

-- all before the end of the area
whole_front : (a : Array) (first : ℕ) (text : List ℕ) → first < 2040 → 1 ≤ first → length text ≤ 512 * (2040 - first) → Stands a first text
    → text_at a own_area (own_location (512 * first) text) ≡ Some text
unfolding text_at
whole_front a first text below some fits stands =
    let front : min (length text) (area_size - 512 * first) ≡ length text = omega arith in
    let start : area_start + 512 * first ≡ 512 * (8 + first) + 0 = omega arith in
    let one = row_holds a (8 + first) text 0 (length text) (omega arith) (λ k less. ap a (sym (front_place first k (omega arith))) ∙ stands k (omega arith)) in
    let none = row_none a (area_start + 512) (length text - length text) (omega arith) in
    rw (front, start, one, none, take_all (length text) text (omega arith)) (ap (λ (xs : List ℕ). Some xs) (append-nil text))

-- some behind the header
whole_back : (a : Array) (first : ℕ) (text : List ℕ) → first < 2040 → 1 ≤ first → 512 * (2040 - first) < length text → length text ≤ 262144 → Stands a first text
    → text_at a own_area (own_location (512 * first) text) ≡ Some text
unfolding text_at
whole_back a first text below some over short stands =
    let n : ℕ = 2040 - first in
    let front : min (length text) (area_size - 512 * first) ≡ 512 * (2040 - first) = omega arith in
    let start : area_start + 512 * first ≡ 512 * (8 + first) + 0 = omega arith in
    let again : area_start + 512 ≡ 512 * 9 + 0 = omega arith in
    let one = row_holds a (8 + first) text 0 (512 * (2040 - first)) (omega arith) (λ k less. ap a (sym (front_place first k (omega arith))) ∙ stands k (omega arith)) in
    let left : length (drop (512 * (2040 - first)) text) ≡ length text - 512 * (2040 - first) = length-drop (512 * (2040 - first)) text in
    let two = row_holds a 9 (drop (512 * (2040 - first)) text) 0 (length text - 512 * (2040 - first)) (omega arith)
    (λ k less. ap a (sym (back_place first k below)) ∙ stands (2040 - first + k) (omega arith) ∙ sym (piece_dropped text (2040 - first) k)) in
    rw (front, start, again, one, two, take_all (length text - 512 * (2040 - first)) (drop (512 * (2040 - first)) text) (omega arith))
    (ap (λ (xs : List ℕ). Some xs) (take-append-drop (512 * (2040 - first)) text))

pub whole_text : (a : Array) (first : ℕ) (text : List ℕ) → first < 2040 → 1 ≤ first → length text ≤ 262144 → Stands a first text → text_at a own_area (own_location (512 * first) text) ≡ Some text
whole_text a first text below some short stands = elim (cases_lt (512 * (2040 - first)) (length text)) [
  | inl over ↦ whole_back a first text below some over short stands
  | inr fits ↦ whole_front a first text below some fits stands
]
