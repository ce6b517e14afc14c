-- Where texts begin, array by array.
use Rattle.std.proofs.Common.{◌≡◌, ℕ, zero, suc, ◌+◌, ◌-◌, ◌/◌, ◌<◌, ◌≤◌, ◌++◌, List, [], ◌∷◌, Bool, true, Option, Some, None, false, inl, inr, refl, sym, ap, ◌∙◌, subst, arith, length}
use Rattle.std.specs.Prelude.{map, nat_le, nat_lt, option_map, slice_get, unwrap_or}
use Rattle.std.specs.List.{range_with_len}
use Rattle.std.specs.Option.{option_map_or}
use Rattle.std.specs.Result.{result_ok}
use Rattle.std.proofs.lemmas.Option.{slice_get-map}
use Rattle.std.proofs.lemmas.Bool.{cases_eq, cases_lt, le-ltb, leb-true, lt-ltb, ltb-true}
use Rattle.lvm_label.specs.declared.header.Location.{Location}
use Rattle.lvm_label.specs.declared.header.Header.{Header}
use Rattle.lvm_label.specs.Header.{header_of}
use Rattle.lvm_group.specs.Parts.{is_inside, location_in, most_text}
use Rattle.lvm_group.proofs.OwnText.{range_at}
use Rattle.lvm_group.proofs.Passed.{both}
use Rattle.rack.specs.Seen.{RackView}
use Rattle.rack.specs.Sequences.{OnlyReads}
use Rattle.rack.proofs.Reading.{same_after}
use Rattle.lvm_group.specs.declared.starts.TextStart.{TextStart}
use Rattle.lvm_group.specs.Writing.{AreStarts, fresh, own_area, start_at}
use Rattle.lvm_group.specs.Changing.{AreBehind, sector_behind, start_by, start_of}
use Rattle.lvm_group.proofs.PartsRead.{get_new}

get_other : {X : Type 0} (xs : List X) (y : X) (k : ℕ) → (k ≡ length xs → ⊥) → slice_get (xs ++ y ∷ []) k ≡ slice_get xs k
get_other [] y zero other = absurd (other refl)
get_other [] y (suc k) other = refl
get_other (x ∷ xs) y zero other = refl
get_other (x ∷ xs) y (suc k) other = get_other xs y k (λ same. other (omega arith))

last : (starts : List TextStart) (start : TextStart) (k : ℕ) → k ≡ length starts → start_at (starts ++ start ∷ []) k ≡ start
last starts start k is =
    ap (start_at (starts ++ start ∷ [])) is ∙ ap (λ (o : Option TextStart). unwrap_or o fresh) (get_new starts start)

other : (starts : List TextStart) (start : TextStart) (k : ℕ) → (k ≡ length starts → ⊥) → start_at (starts ++ start ∷ []) k ≡ start_at starts k
other starts start k differs = ap (λ (o : Option TextStart). unwrap_or o fresh) (get_other starts start k differs)

-- one more
pub inside_more : (starts : List TextStart) (start : TextStart) → AreStarts starts → 1 ≤ start.sector → start.sector < 2040 → AreStarts (starts ++ start ∷ [])
inside_more starts start inside some below = λ array. elim (cases_eq array (length starts)) [
  | inl here ↦ subst (λ (s : TextStart). (1 ≤ s.sector) × (s.sector < 2040)) (sym (last starts start array here)) (some, below)
  | inr elsewhere ↦ subst (λ (s : TextStart). (1 ≤ s.sector) × (s.sector < 2040)) (sym (other starts start array elsewhere)) (inside array)
]

pub behind_more : {a x : RackView} (n : ℕ) (starts : List TextStart) (start : TextStart) → length starts ≡ n → n < a.disks → 8 < a.sectors n → OnlyReads a x → x.spent n 8 ≡ false → AreBehind a n starts
    → (x.told n → start ≡ start_of (x.held n 8).current) → AreBehind a (n + 1) (starts ++ start ∷ [])
behind_more {a} {x} n starts start count below within looks unspent behind is = λ array less told. elim (cases_eq array n) [
  | inl here ↦
      let there = subst a.told here told in
      last starts start array (here ∙ sym count) ∙ is (looks.stays.told n there) ∙ ap start_of (same_after n 8 looks below within there unspent) ∙ ap (λ k. start_of (a.held k 8).current) (sym here)
  | inr elsewhere ↦ other starts start array (λ same. elsewhere (same ∙ count)) ∙ behind array (omega arith) told
]

-- ---- by what stands in the arrays

behind_inside : (l : Location) (test : Bool) → is_inside own_area l ≡ test → (1 ≤ sector_behind l) × (sector_behind l < 2040)
behind_inside l false is = rw is (omega arith, omega arith)
behind_inside l true is =
    let first = both (nat_le 512 l.offset) _ is in
    let second = both (nat_lt l.offset own_area.size) _ first.1 in
    let third = both (nat_le l.size (own_area.size - 512)) (nat_le l.size most_text) second.1 in
    let least = leb-true 512 l.offset first.0 in
    let most = ltb-true l.offset own_area.size second.0 in
    let short = leb-true l.size most_text third.1 in
    rw is (elim (cases_lt ((l.offset + l.size + 511) / 512) 2040) [
      | inl front ↦ rw (lt-ltb ((l.offset + l.size + 511) / 512) 2040 front) (omega arith, omega arith)
      | inr back ↦ rw (le-ltb ((l.offset + l.size + 511) / 512) 2040 back) (omega arith, omega arith)
    ])

by_location : (o : Option Location) → (1 ≤ option_map_or sector_behind o 1) × (option_map_or sector_behind o 1 < 2040)
by_location None = (omega arith, omega arith)
by_location (Some l) = behind_inside l (is_inside own_area l) refl

pub by_header : (o : Option Header) → (1 ≤ (start_by o).sector) × ((start_by o).sector < 2040)
by_header None = (omega arith, omega arith)
by_header (Some header) = by_location (location_in header)

-- those of the first arrays, so many
abbrev pub starts_in : RackView → ℕ → List TextStart
starts_in a n = map (λ array. start_of (a.held array 8).current) (range_with_len 0 n)

pub starts_behind : (a : RackView) (n : ℕ) → AreBehind a n (starts_in a n)
starts_behind a n = λ array below told.
    ap (λ (o : Option TextStart). unwrap_or o fresh) (slice_get-map (λ array. start_of (a.held array 8).current) (range_with_len 0 n) array ∙ ap (option_map (λ array. start_of (a.held array 8).current)) (range_at n array below))

inside_by : (f : ℕ → TextStart) (xs : List ℕ) → ((k : ℕ) → (1 ≤ (f k).sector) × ((f k).sector < 2040)) → AreStarts (map f xs)
inside_by f [] each array = (omega arith, omega arith)
inside_by f (x ∷ xs) each zero = each x
inside_by f (x ∷ xs) each (suc array) = inside_by f xs each array

pub starts_inside : (a : RackView) (n : ℕ) → AreStarts (starts_in a n)
starts_inside a n = inside_by (λ array. start_of (a.held array 8).current) (range_with_len 0 n) (λ k. by_header (result_ok (header_of (a.held k 8).current)))
