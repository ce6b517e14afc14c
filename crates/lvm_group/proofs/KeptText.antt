-- A new text is written beside the last one, so the last one is read as before.
use Rattle.std.proofs.Common.{◌≡◌, ◌⊎◌, ℕ, zero, suc, ◌+◌, ◌-◌, ◌/◌, ◌%◌, ◌<◌, ◌≤◌, true, false, Bool, List, refl, sym, ap, ◌∙◌, inl, inr, arith, length}
use Rattle.std.specs.Prelude.{nat_le, nat_lt, slice_get}
use Rattle.std.specs.Option.{option_and_then}
use Rattle.std.proofs.lemmas.Bool.{cases_lt, le-ltb, leb-true, lt-ltb, ltb-true}
use Rattle.lvm_label.specs.declared.header.Location.{Location}
use Rattle.lvm_group.specs.Changing.{next_sector}
use Rattle.lvm_group.specs.Parts.{Array, before_end, behind, byte_at, group_at, group_by, is_inside, most_text, row_at, text_at, with_byte}
use Rattle.lvm_group.specs.Writing.{area_start, own_area, place_at, text_sectors}
use Rattle.lvm_group.proofs.GroupRead.{not_inside}
use Rattle.lvm_group.proofs.Passed.{both}

-- ---- bytes that stay

-- bytes in a row whose sectors are the same
row_same : (a i : Array) (place count : ℕ) → ((p : ℕ) → place ≤ p → p < place + count → i (p / 512) ≡ a (p / 512)) → row_at i place count ≡ row_at a place count
unfolding row_at
row_same a i place zero same = refl
row_same a i place (suc count) same =
    let here : byte_at i place ≡ byte_at a place = ap (λ (bytes : List ℕ). slice_get bytes (place % 512)) (same place (omega arith) (omega arith)) in
    let rest = row_same a i (place + 1) count (λ p least most. same p (omega arith) (omega arith)) in
    λ j. with_byte (here j) (rest j)

-- the bytes of a text by their places in the array
abbrev pub IsInText : Location → ℕ → Type 0
IsInText l p = ((area_start + l.offset ≤ p) × (p < area_start + l.offset + before_end own_area l)) ⊎ ((area_start + 512 ≤ p) × (p < area_start + 512 + (l.size - before_end own_area l)))

text_same : (a i : Array) (l : Location) → ((p : ℕ) → IsInText l p → i (p / 512) ≡ a (p / 512)) → text_at i own_area l ≡ text_at a own_area l
unfolding text_at
text_same a i l same =
    let first = row_same a i (area_start + l.offset) (before_end own_area l) (λ p least most. same p (inl (least, most))) in
    let second = row_same a i (area_start + 512) (l.size - before_end own_area l) (λ p least most. same p (inr (least, most))) in
    λ j. option_and_then (λ (front : List ℕ). behind front (second j)) (first j)

-- ---- places

-- a location inside the area, in numbers
pub record IsLocated (offset size : ℕ) : Type 0 where
  pub least : 512 ≤ offset
  pub most : offset < 1044480
  pub short : size ≤ 262144

located : (l : Location) → is_inside own_area l ≡ true → IsLocated l.offset l.size
located l is =
    let first = both (nat_le 512 l.offset) _ is in
    let second = both (nat_lt l.offset own_area.size) _ first.1 in
    let third = both (nat_le l.size (own_area.size - 512)) (nat_le l.size most_text) second.1 in
    record {
      least = leb-true 512 l.offset first.0;
      most = ltb-true l.offset own_area.size second.0;
      short = leb-true l.size most_text third.1;
    }

-- its sectors lie behind the header and before the first extent
text_bounds : (l : Location) (p : ℕ) → is_inside own_area l ≡ true → IsInText l p → (9 ≤ p / 512) × (p / 512 < 2048)
text_bounds l p inside (inl there) =
    let is = located l inside in let least = is.least in let from = there.0 in let to = there.1 in (omega arith, omega arith)
text_bounds l p inside (inr there) =
    let is = located l inside in let short = is.short in let from = there.0 in let to = there.1 in (omega arith, omega arith)

-- where the next text begins
next_cases : (l : Location) →
    (((l.offset + l.size + 511) / 512 < 2040) × (next_sector l ≡ (l.offset + l.size + 511) / 512))
    ⊎ ((2040 ≤ (l.offset + l.size + 511) / 512) × (next_sector l ≡ (l.offset + l.size + 511) / 512 - 2039))
next_cases l = elim (cases_lt ((l.offset + l.size + 511) / 512) 2040) [
  | inl front ↦ inl (front, rw (lt-ltb ((l.offset + l.size + 511) / 512) 2040 front) refl)
  | inr back ↦ inr (back, rw (le-ltb ((l.offset + l.size + 511) / 512) 2040 back) refl)
]

place_cases : (first k : ℕ) → ((first + k < 2040) × (place_at first k ≡ 8 + (first + k))) ⊎ ((2040 ≤ first + k) × (place_at first k ≡ 8 + (first + k - 2039)))
place_cases first k = elim (cases_lt (first + k) 2040) [
  | inl front ↦ inl (front, rw (lt-ltb (first + k) 2040 front) refl)
  | inr back ↦ inr (back, rw (le-ltb (first + k) 2040 back) refl)
]

-- in numbers: a text that ends at a sector and begins at most 513 sectors before it, and one of at most 512 sectors behind it
beside_front : (offset size end first k place p : ℕ) → IsLocated offset size → end ≡ (offset + size + 511) / 512 → k < 512 → end < 2040 → first ≡ end
    → ((first + k < 2040) × (place ≡ 8 + (first + k))) ⊎ ((2040 ≤ first + k) × (place ≡ 8 + (first + k - 2039)))
    → 4096 + offset ≤ p → p < 4096 + offset + size → place ≡ p / 512 → ⊥
beside_front offset size end first k place p is ends few front begins (inl (before, at)) from to same =
    let least = is.least in let short = is.short in absurd (omega arith)
beside_front offset size end first k place p is ends few front begins (inr (past, at)) from to same =
    let least = is.least in let short = is.short in absurd (omega arith)

beside_back : (offset size end first k place p : ℕ) → IsLocated offset size → end ≡ (offset + size + 511) / 512 → k < 512 → 2040 ≤ end → first ≡ end - 2039
    → ((first + k < 2040) × (place ≡ 8 + (first + k))) ⊎ ((2040 ≤ first + k) × (place ≡ 8 + (first + k - 2039)))
    → ((4096 + offset ≤ p) × (p < 4096 + 1044480)) ⊎ ((4608 ≤ p) × (p < 4608 + (offset + size - 1044480))) → place ≡ p / 512 → ⊥
beside_back offset size end first k place p is ends few back begins (inl (before, at)) (inl (from, to)) same =
    let least = is.least in let short = is.short in let most = is.most in absurd (omega arith)
beside_back offset size end first k place p is ends few back begins (inl (before, at)) (inr (from, to)) same =
    let least = is.least in let short = is.short in let most = is.most in absurd (omega arith)
beside_back offset size end first k place p is ends few back begins (inr (past, at)) there same =
    let short = is.short in let most = is.most in absurd (omega arith)

-- no sector of the new text is one of the last
pub texts_apart : (l : Location) (text : List ℕ) (p k : ℕ) → is_inside own_area l ≡ true → length text ≤ 262144 → k < text_sectors text → IsInText l p → place_at (next_sector l) k ≡ p / 512 → ⊥
texts_apart l text p k inside few below there same =
    let is = located l inside in
    let least = is.least in
    let short = is.short in
    let most = is.most in
    elim (next_cases l) [
      | inl front ↦ elim there [
        | inl within ↦
            let lower = within.0 in
            let upper = within.1 in
            beside_front l.offset l.size ((l.offset + l.size + 511) / 512) (next_sector l) k (place_at (next_sector l) k) p is refl (omega arith) front.0 front.1 (place_cases (next_sector l) k) lower (omega arith) same
        | inr within ↦ let ends = front.0 in let lower = within.0 in let upper = within.1 in absurd (omega arith)
      ]
      | inr back ↦
          beside_back l.offset l.size ((l.offset + l.size + 511) / 512) (next_sector l) k (place_at (next_sector l) k) p is refl (omega arith) back.0 back.1 (place_cases (next_sector l) k)
          (elim there [
            | inl within ↦ let lower = within.0 in let upper = within.1 in inl (lower, omega arith)
            | inr within ↦ let lower = within.0 in let upper = within.1 in inr (lower, omega arith)
          ])
          same
    ]

-- sectors that have none of the new text stay
abbrev pub StaysBeside : Array → Array → Location → List ℕ → Type 0
StaysBeside a i l text = (s : ℕ) → 9 ≤ s → s < 2048 → ((k : ℕ) → k < text_sectors text → place_at (next_sector l) k ≡ s → ⊥) → i s ≡ a s

group_inside : (a i : Array) (l : Location) (text : List ℕ) → length text ≤ 262144 → is_inside own_area l ≡ true → StaysBeside a i l text → group_at i own_area l ≡ group_at a own_area l
unfolding group_at
group_inside a i l text few is others =
    let same = text_same a i l
    (λ p there. let bounds = text_bounds l p is there in others (p / 512) bounds.0 bounds.1 (λ k below at. texts_apart l text p k is few below there at)) in
    rw is (ap (option_and_then (group_by l)) same)

-- so the last one says the same group
pub group_kept : (a i : Array) (l : Location) (text : List ℕ) → length text ≤ 262144 → (is_inside own_area l ≡ true → StaysBeside a i l text) → group_at i own_area l ≡ group_at a own_area l
group_kept a i l text few others = go (is_inside own_area l) refl where
  go : (test : Bool) → is_inside own_area l ≡ test → group_at i own_area l ≡ group_at a own_area l
  go true is = group_inside a i l text few is (others is)
  go false is = not_inside i own_area l is ∙ sym (not_inside a own_area l is)
