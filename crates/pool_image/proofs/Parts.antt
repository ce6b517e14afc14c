-- What stands in an array for the group by the meaning of contents is what lvm_group has it to be, in arrays of whole sectors.
use Rattle.std.proofs.Common.{◌≡◌, ℕ, ◌+◌, ◌-◌, ◌*◌, ◌/◌, ◌%◌, ◌<◌, ◌≤◌, Bool, true, false, ◌==◌, ◌&&◌, nat_le, nat_lt, min, if◌then◌else◌, List, [], length, take, drop, slice_get, Option, Some, None, refl, sym, ap, ap₂, ◌∙◌, inl, inr, lt-ltb, le-ltb, le-leb, ltb-true, leb-true, arith}
use Rattle.std.specs.Option.{option_and_then}
use Rattle.std.specs.Result.{result_ok}
use Rattle.std.proofs.lemmas.Bool.{cases_Bool, cases_lt, and_parts, and_from}
use Rattle.rack.specs.Seen.{Image}
use Rattle.shr_base.specs.Crc.{lvm_crc_of}
use Rattle.lvm_label.specs.declared.label.Area.{Area}
use Rattle.lvm_label.specs.declared.header.Location.{Location}
use Rattle.lvm_text.specs.declared.group.Group.{Group}
use Rattle.lvm_text.specs.Words.{past_blanks, string_at, integer_at, item_at, body_at, value_at, first_value_at, separator_at, words_at}
use Rattle.lvm_text.specs.Group.{group_of, found_at, name_of, number_in, number_at, text_in, text_at as text_on, section_in, section_at, logical_volumes, each_at, pv_at, stripe_in, kind_at, segment_at, numbered, segment_numbered, segments_at, lv_at, group_at as group_read, group_in as group_found}
use Rattle.lvm_group.specs.Parts.{row_at, text_at, behind, before_end, byte_at}
use Rattle.lvm_group.specs.Parts as part
use Rattle.lvm_group.proofs.Rows.{row_none}
use Rattle.pool_image.specs.Volumes.{Arrays, bytes_in, text_bytes, text_limit, is_inside, group_at}
use Rattle.pool_image.proofs.Rows.{row_sectors, more_sectors, flat_sectors, sectors_from}

-- the arrays' sectors, with nothing past their ends
abbrev pub held_in : Arrays → Image
held_in a = λ n s. if nat_lt s (a.sectors n) then a.contents n s else []

-- an array of whole sectors
abbrev pub IsWholeArray : Arrays → ℕ → Type 0
IsWholeArray a n = (s : ℕ) → s < a.sectors n → length (a.contents n s) ≡ 512

module _ (a : Arrays) (n : ℕ) (whole : IsWholeArray a n) where
  abbrev h : ℕ → List ℕ
  h = held_in a n

  held_there : (s : ℕ) → s < a.sectors n → h s ≡ a.contents n s
  held_there s low = ap (λ (b : Bool). if b then a.contents n s else []) (lt-ltb s (a.sectors n) low)

  held_past : (s : ℕ) → a.sectors n ≤ s → h s ≡ []
  held_past s high = ap (λ (b : Bool). if b then a.contents n s else []) (le-ltb s (a.sectors n) high)

  -- bytes inside the array
  pub row_inside : (start count : ℕ) → start + count ≤ 512 * a.sectors n → row_at h start count ≡ Some (bytes_in a n start count)
  row_inside start count inside =
      let s = start / 512 in
      let i = start % 512 in
      let m = (i + count + 511) / 512 in
      let place : start ≡ 512 * s + i = omega arith in
      let sized : (k : ℕ) → k < m → length (h (s + k)) ≡ 512 =
      λ k low. let there : s + k < a.sectors n = omega (arith, low, inside) in ap length (held_there (s + k) there) ∙ whole (s + k) there in
      let same : (k : ℕ) → k < m → a.contents n (s + k) ≡ h (s + k) =
      λ k low. sym (held_there (s + k) (omega (arith, low, inside))) in
      let none : s + 0 ≡ s = omega arith in
      ap (λ p. row_at h p count) place
      ∙ row_sectors h m s i count sized (omega arith)
      ∙ ap Some (sym (ap (λ xs. take count (drop i xs)) (flat_sectors (a.contents n) s 0 (count / 512 + 2) ∙ ap (λ k. sectors_from (a.contents n) k (count / 512 + 2)) none)
      ∙ more_sectors h (a.contents n) m (count / 512 + 2) s count i (omega arith) (omega arith) sized same))

  -- and past its end
  pub row_outside : (start count : ℕ) → 0 < count → 512 * a.sectors n < start + count → row_at h start count ≡ None
  row_outside start count some past =
      let p = start + count - 1 in
      row_none h start count p (omega (arith, some)) (omega (arith, some))
      (ap (λ bytes. slice_get bytes (p % 512)) (held_past (p / 512) (omega (arith, some, past))))

  -- a text of no bytes says no group
  no_group : result_ok (group_of []) ≡ None
  unfolding past_blanks string_at integer_at item_at body_at value_at first_value_at separator_at words_at found_at name_of number_in number_at text_in text_on section_in section_at logical_volumes each_at pv_at stripe_in kind_at segment_at numbered segment_numbered segments_at lv_at group_read group_found
  no_group = refl

  if_false : {X : Type 0} (b : Bool) (x y : X) → b ≡ false → (if b then x else y) ≡ y
  if_false b x y is = ap (λ (c : Bool). if c then x else y) is

  if_true : {X : Type 0} (b : Bool) (x y : X) → b ≡ true → (if b then x else y) ≡ x
  if_true b x y is = ap (λ (c : Bool). if c then x else y) is

  no_sum : (location : Location) → part.group_by location [] ≡ None
  no_sum location =
      let Goal : Bool → Type 0 = λ b. (if b then result_ok (group_of []) else None) ≡ None in
      let goal : Goal (location.crc == lvm_crc_of []) = elim (location.crc == lvm_crc_of []) as Goal [ true ↦ no_group | false ↦ refl ] in
      goal

  module _ (area : Area) (location : Location) where
    abbrev first : ℕ
    first = min location.size (area.size - location.offset)

    abbrev end : ℕ
    end = area.offset + min (location.offset + location.size) area.size

    abbrev text : List ℕ
    text = text_bytes a n area location

    pub record IsInArea : Type 0 where
      pub behind_header : 512 ≤ location.offset
      pub before_end : location.offset < area.size
      pub room : 512 + location.size ≤ area.size
      pub short : location.size ≤ text_limit

    -- a location inside its area, whose text lies inside the array
    text_inside : IsInArea → end ≤ 512 * a.sectors n → text_at h area location ≡ Some text
    unfolding text_at
    text_inside at inside =
        let before = at.before_end in
        let room = at.room in
        ap (λ o. option_and_then (λ (front : List ℕ). behind front (row_at h (area.offset + 512) (location.size - first))) o)
        (row_inside (area.offset + location.offset) first (omega (arith, before, inside)))
        ∙ ap (behind (bytes_in a n (area.offset + location.offset) first))
        (row_inside (area.offset + 512) (location.size - first) (omega (arith, before, room, inside)))

    -- or past its end
    text_outside : IsInArea → 512 * a.sectors n < end → option_and_then (part.group_by location) (text_at h area location) ≡ None
    unfolding text_at row_at
    text_outside at outside =
        let before = at.before_end in
        elim (cases_lt 0 location.size) [
          | inl some ↦
              ap (λ o. option_and_then (part.group_by location) (option_and_then (λ (front : List ℕ). behind front (row_at h (area.offset + 512) (location.size - first))) o))
              (row_outside (area.offset + location.offset) first (omega (arith, some, before)) (omega (arith, outside, before)))
          | inr none ↦
              let nothing : first ≡ 0 = omega (arith, none) in
              let left : location.size - first ≡ 0 = omega (arith, none) in
              ap₂ (λ k m. option_and_then (part.group_by location)
              (option_and_then (λ (front : List ℕ). behind front (row_at h (area.offset + 512) m)) (row_at h (area.offset + location.offset) k))) nothing left
              ∙ no_sum location
        ]

    abbrev test : Bool
    test = is_inside (a.sectors n) area location && (nat_le location.size text_limit && (location.crc == lvm_crc_of text))

    abbrev said : Option Group
    said = result_ok (group_of text)

    abbrev read : Option Group
    read = option_and_then (part.group_by location) (text_at h area location)

    pub group_same : part.group_at h area location ≡ group_at a n area location
    unfolding part.group_at
    group_same =
        elim (cases_lt location.offset 512) [
          | inl early ↦ neither (λ at. let low = at.behind_header in absurd (omega (arith, low, early)))
          | inr behind_header ↦
              elim (cases_lt location.offset area.size) [
                | inr past ↦ neither (λ at. let low = at.before_end in absurd (omega (arith, low, past)))
                | inl front ↦
                    elim (cases_lt area.size (512 + location.size)) [
                      | inl tight ↦ neither (λ at. let low = at.room in absurd (omega (arith, low, tight)))
                      | inr room ↦
                          elim (cases_lt text_limit location.size) [
                            | inl long ↦ neither (λ at. let low = at.short in absurd (omega (arith, low, long)))
                            | inr short ↦ both (record { behind_header = behind_header; before_end = front; room = room; short = short })
                          ]
                    ]
              ]
        ]
      where
        in_area : part.is_inside area location ≡ true → IsInArea
        in_area is =
            let one = and_parts (nat_le 512 location.offset) _ is in
            let two = and_parts (nat_lt location.offset area.size) _ one.1 in
            let three = and_parts (nat_le location.size (area.size - 512)) _ two.1 in
            let header = leb-true 512 location.offset one.0 in
            let before = ltb-true location.offset area.size two.0 in
            let room = leb-true location.size (area.size - 512) three.0 in
            record { behind_header = header; before_end = before; room = omega (arith, header, before, room); short = leb-true location.size text_limit three.1 }

        in_array : is_inside (a.sectors n) area location ≡ true → nat_le location.size text_limit ≡ true → IsInArea
        in_array is few =
            let one = and_parts (nat_le 512 location.offset) _ is in
            let two = and_parts (nat_lt location.offset area.size) _ one.1 in
            let three = and_parts (nat_le (512 + location.size) area.size) _ two.1 in
            record {
              behind_header = leb-true 512 location.offset one.0;
              before_end = ltb-true location.offset area.size two.0;
              room = leb-true (512 + location.size) area.size three.0;
              short = leb-true location.size text_limit few;
            }

        not_so : (b : Bool) → (b ≡ true → ⊥) → b ≡ false
        not_so b never = elim (cases_Bool b) [ inl is ↦ absurd (never is) | inr none ↦ none ]

        neither : (IsInArea → ⊥) → (if part.is_inside area location then read else None) ≡ (if test then said else None)
        neither never =
            if_false (part.is_inside area location) read None (not_so (part.is_inside area location) (λ is. never (in_area is)))
            ∙ sym (if_false test said None (not_so test (λ is.
            let one = and_parts (is_inside (a.sectors n) area location) _ is in
            never (in_array one.0 (and_parts (nat_le location.size text_limit) _ one.1).0))))

        both : IsInArea → (if part.is_inside area location then read else None) ≡ (if test then said else None)
        both at =
            let header = at.behind_header in
            let before = at.before_end in
            let room = at.room in
            let one = le-leb 512 location.offset header in
            let two = lt-ltb location.offset area.size before in
            let four = le-leb location.size text_limit at.short in
            let lvm : part.is_inside area location ≡ true =
            and_from _ _ one (and_from _ _ two (and_from _ _ (le-leb location.size (area.size - 512) (omega (arith, header, before, room))) four)) in
            if_true (part.is_inside area location) read None lvm
            ∙ elim (cases_lt (512 * a.sectors n) end) [
              | inl outside ↦
                  text_outside at outside
                  ∙ sym (if_false test said None (not_so test (λ is.
                  let inside = and_parts (is_inside (a.sectors n) area location) _ is in
                  let last = (and_parts (nat_le (512 + location.size) area.size) _ (and_parts (nat_lt location.offset area.size) _ (and_parts (nat_le 512 location.offset) _ inside.0).1).1).1 in
                  let low = leb-true end (512 * a.sectors n) last in
                  omega (arith, low, outside))))
              | inr inside ↦
                  let here : is_inside (a.sectors n) area location ≡ true =
                  and_from _ _ one (and_from _ _ two (and_from _ _ (le-leb (512 + location.size) area.size room) (le-leb end (512 * a.sectors n) inside))) in
                  ap (option_and_then (part.group_by location)) (text_inside at inside)
                  ∙ sym (ap₂ (λ (x : Bool) (y : Bool). if x && (y && (location.crc == lvm_crc_of text)) then result_ok (group_of text) else None) here four)
            ]
