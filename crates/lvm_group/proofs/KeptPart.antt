-- An array on which a new text is being written says what it said, as long as its header hasn't the new text.
use Rattle.std.proofs.Common.{◌≡◌, ◌⊎◌, ℕ, ◌<◌, ◌≤◌, Bool, true, false, not, List, [], ◌∷◌, Option, Some, None, refl, sym, ap, ◌∙◌, inl, inr, arith, length}
use Rattle.std.specs.Prelude.{◌&&◌, bytes_eq, is_some, nat_eq, option_map, slice_get}
use Rattle.std.specs.List.{starts_with}
use Rattle.std.specs.Option.{option_and_then, option_map_or}
use Rattle.std.specs.Result.{result_ok}
use Rattle.lvm_label.specs.declared.label.Area.{Area}
use Rattle.lvm_label.specs.declared.label.Label.{Label}
use Rattle.lvm_label.specs.declared.header.Location.{Location}
use Rattle.lvm_label.specs.declared.header.Header.{Header}
use Rattle.lvm_label.specs.Label.{HaveLabelsDecoded, IsLabel, label_bytes, label_in, label_word}
use Rattle.lvm_label.specs.Header.{HaveHeadersDecoded, header_bytes, header_of}
use Rattle.lvm_text.specs.declared.group.Group.{Group}
use Rattle.lvm_group.specs.declared.parts.Part.{Part}
use Rattle.lvm_group.specs.Changing.{next_sector, sector_behind, start_by, start_of}
use Rattle.lvm_group.specs.Group.{has_own_label}
use Rattle.lvm_group.specs.Ids.{label_id, pv_id}
use Rattle.lvm_group.specs.Images.{HasOwnArea}
use Rattle.lvm_group.specs.Parts.{Array, group_at, group_in_area, has_bad_text, header_at, is_inside, label_on, location_in, part_by, part_of, whole_area}
use Rattle.lvm_group.specs.Writing.{own_area, own_header, own_label, place_at, text_sectors}
use Rattle.lvm_group.proofs.KeptText.{group_kept}
use Rattle.lvm_group.proofs.NewTargets.{place_bounds}
use Rattle.lvm_group.proofs.OwnText.{same_bytes}
use Rattle.lvm_group.proofs.TextStarts.{by_header}

-- ---- the part of an array with the pool's metadata area

-- the header of that area
abbrev pub header_on : Array → Option Header
header_on x = result_ok (header_of (x 8))

-- the group that it says
abbrev pub said : Array → Option Header → Option Group
said x header = group_in_area x (Some own_area) header

abbrev pub first_location : Option Header → Option Location
first_location header = option_and_then location_in header

part_none : (x : Array) (sectors : ℕ) → label_on x ≡ None → part_of x sectors ≡ record { label = None; header = header_on x; group = None }
unfolding part_by
part_none x sectors none = ap (part_by x x sectors) none

part_some : (x : Array) (sectors : ℕ) (label : Label) → label_on x ≡ Some label → slice_get label.metadata.items 0 ≡ Some own_area
    → part_of x sectors ≡ record { label = Some label; header = header_on x; group = said x (header_on x) }
unfolding part_by
part_some x sectors label is area =
    ap (part_by x x sectors) is
    ∙ ap (λ (o : Option Area). let area : Option Area = option_map (whole_area sectors) o in
    let header : Option Header = option_and_then (header_at x) area in
    let part : Part = record { label = Some label; header = header; group = group_in_area x area header } in part) area

none_said : (x : Array) (header : Option Header) → first_location header ≡ None → said x header ≡ None
none_said x None none = refl
none_said x (Some header) none = ap (option_and_then (group_at x own_area)) none

-- label and header are those that are found, and the group is the one in the area, where a header without a label has no location
pub record IsPartOf (x : Array) (part : Part) : Type 0 where
  pub label : part.label ≡ label_on x
  pub header : part.header ≡ header_on x
  pub group : part.group ≡ said x (header_on x)

own_part : (x : Array) (sectors : ℕ) → HasOwnArea x → (label_on x ≡ None → first_location (header_on x) ≡ None) → IsPartOf x (part_of x sectors)
own_part x sectors own bare = go (label_on x) refl where
  go : (o : Option Label) → label_on x ≡ o → IsPartOf x (part_of x sectors)
  go None is =
      let part = part_none x sectors is in
      record {
        label = ap (λ (p : Part). p.label) part ∙ sym is;
        header = ap (λ (p : Part). p.header) part;
        group = ap (λ (p : Part). p.group) part ∙ sym (none_said x (header_on x) (bare is));
      }
  go (Some label) is =
      let part = part_some x sectors label is (own.area label is) in
      record {
        label = ap (λ (p : Part). p.label) part ∙ sym is;
        header = ap (λ (p : Part). p.header) part;
        group = ap (λ (p : Part). p.group) part;
      }

not_some : {X : Type 0} (o : Option X) → (is_some o && true) ≡ false → o ≡ None
not_some None is = refl
not_some (Some x) is = cc

-- a header without a label has no location where the array isn't bad
bare_header : (x : Array) (sectors : ℕ) → has_bad_text (part_of x sectors) ≡ false → label_on x ≡ None → first_location (header_on x) ≡ None
bare_header x sectors sound none = not_some (first_location (header_on x)) (sym (ap has_bad_text (part_none x sectors none)) ∙ sound)

-- ---- what stays of an array

-- label, empty header and some of a new text may stand where they are written
pub record IsKept (pool : List ℕ) (array sectors : ℕ) (text : List ℕ) (a i : Array) : Type 0 where
  pub label : (i 1 ≡ a 1) ⊎ ((i 1 ≡ label_bytes (own_label pool array sectors)) × IsLabel (own_label pool array sectors))
  pub header : (i 8 ≡ a 8) ⊎ (((start_of (a 8)).blank ≡ true) × (i 8 ≡ header_bytes (own_header [])))
  pub others :
      (s : ℕ) → s < 2048 → (s ≡ 1 → ⊥) → (s ≡ 8 → ⊥) → ((k : ℕ) → k < text_sectors text → place_at (start_of (a 8)).sector k ≡ s → ⊥) → i s ≡ a s

-- a sector before the text's
before_text : (pool : List ℕ) (array sectors : ℕ) (text : List ℕ) (a i : Array) (s : ℕ) → IsKept pool array sectors text a i → length text ≤ 262144
    → s < 9 → (s ≡ 1 → ⊥) → (s ≡ 8 → ⊥) → i s ≡ a s
before_text pool array sectors text a i s is short less label header =
    let bounds = by_header (header_on a) in
    is.others s (omega arith) label header (λ k below at. let place = (place_bounds (start_of (a 8)).sector k bounds.0 bounds.1 (omega arith)).0 in absurd (omega arith))

pub blank_none : (o : Option Header) → (start_by o).blank ≡ true → o ≡ None
blank_none None is = refl
blank_none (Some header) is = cc

pub empty_there : HaveHeadersDecoded → (bytes : List ℕ) → bytes ≡ header_bytes (own_header []) → result_ok (header_of bytes) ≡ Some (own_header [])
empty_there headers bytes is =
    rw (is, headers (own_header []) (record { start = omega arith; size = omega arith; few = omega arith; each = tt })) refl

-- an array as it was and as it is while a text is written
pub record IsWriting (pool : List ℕ) (array sectors : ℕ) (text : List ℕ) (a i : Array) : Type 0 where
  pub labels : HaveLabelsDecoded
  pub headers : HaveHeadersDecoded
  pub own : HasOwnArea a
  pub short : length text ≤ 262144
  pub kept : IsKept pool array sectors text a i

label_kept : (pool : List ℕ) (array sectors : ℕ) (text : List ℕ) (a i : Array) → IsWriting pool array sectors text a i → (label_on i ≡ label_on a) ⊎ (label_on i ≡ Some (own_label pool array sectors))
label_kept pool array sectors text a i is =
    let same = λ (s : ℕ). before_text pool array sectors text a i s is.kept is.short in
    let zero_same : i 0 ≡ a 0 = same 0 (omega arith) (λ e. absurd (omega arith)) (λ e. absurd (omega arith)) in
    let two_same : i 2 ≡ a 2 = same 2 (omega arith) (λ e. absurd (omega arith)) (λ e. absurd (omega arith)) in
    let three_same : i 3 ≡ a 3 = same 3 (omega arith) (λ e. absurd (omega arith)) (λ e. absurd (omega arith)) in
    elim is.kept.label [
      | inl one_same ↦ inl (λ j. result_ok (label_in 0 (zero_same j ∷ one_same j ∷ two_same j ∷ three_same j ∷ [])))
      | inr put ↦
          let free : starts_with nat_eq (i 0) label_word ≡ false = rw zero_same is.own.free in
          inr (rw (put.0, is.labels (own_label pool array sectors) (i 0) (i 2 ∷ i 3 ∷ []) put.1 free) refl)
    ]

header_kept : (pool : List ℕ) (array sectors : ℕ) (text : List ℕ) (a i : Array) → IsWriting pool array sectors text a i
    → (header_on i ≡ header_on a) ⊎ ((header_on a ≡ None) × (header_on i ≡ Some (own_header [])))
header_kept pool array sectors text a i is = elim is.kept.header [
  | inl same ↦ inl (ap (λ (bytes : List ℕ). result_ok (header_of bytes)) same)
  | inr put ↦ inr (blank_none (header_on a) put.0, empty_there is.headers (i 8) put.1)
]

-- the area stays the pool's
pub area_kept : (pool : List ℕ) (array sectors : ℕ) (text : List ℕ) (a i : Array) → IsWriting pool array sectors text a i → HasOwnArea i
area_kept pool array sectors text a i is = record {
  free = rw (before_text pool array sectors text a i 0 is.kept is.short (omega arith) (λ e. absurd (omega arith)) (λ e. absurd (omega arith))) is.own.free;
  area = λ label found. elim (label_kept pool array sectors text a i is) [
    | inl same ↦ is.own.area label (sym same ∙ found)
    | inr put ↦ let one : label ≡ own_label pool array sectors = cc in ap (λ (l : Label). slice_get l.metadata.items 0) one
  ];
}

location_kept : (a i : Array) → (header_on i ≡ header_on a) ⊎ ((header_on a ≡ None) × (header_on i ≡ Some (own_header []))) → first_location (header_on i) ≡ first_location (header_on a)
location_kept a i (inl same) = ap first_location same
location_kept a i (inr put) = ap first_location put.1 ∙ sym (ap first_location put.0)

start_at_location : (o : Option Header) (location : Location) → first_location o ≡ Some location → is_inside own_area location ≡ true → (start_by o).sector ≡ next_sector location
start_at_location None location is inside = cc
start_at_location (Some header) location is inside = ap (λ (l : Option Location). option_map_or sector_behind l 1) is ∙ rw inside refl

said_by : (x : Array) (header : Option Header) → said x header ≡ option_and_then (group_at x own_area) (first_location header)
said_by x None = refl
said_by x (Some header) = refl

said_kept : (pool : List ℕ) (array sectors : ℕ) (text : List ℕ) (a i : Array) → IsWriting pool array sectors text a i → said i (header_on i) ≡ said a (header_on a)
said_kept pool array sectors text a i is =
    said_by i (header_on i) ∙ ap (option_and_then (group_at i own_area)) (location_kept a i (header_kept pool array sectors text a i is)) ∙ go (first_location (header_on a)) refl
    ∙ sym (said_by a (header_on a)) where
      at : (l : Location) → first_location (header_on a) ≡ Some l → group_at i own_area l ≡ group_at a own_area l
      at l found =
          group_kept a i l text is.short
          (λ inside s least most apart.
          let start = start_at_location (header_on a) l found inside in
          is.kept.others s most (λ e. absurd (omega arith)) (λ e. absurd (omega arith)) (λ k below place. apart k below (ap (λ (first : ℕ). place_at first k) (sym start) ∙ place)))

      go : (o : Option Location) → first_location (header_on a) ≡ o → option_and_then (group_at i own_area) (first_location (header_on a)) ≡ option_and_then (group_at a own_area) (first_location (header_on a))
      go None found = ap (option_and_then (group_at i own_area)) found ∙ sym (ap (option_and_then (group_at a own_area)) found)
      go (Some l) found = ap (option_and_then (group_at i own_area)) found ∙ at l found ∙ sym (ap (option_and_then (group_at a own_area)) found)

-- ---- what it says

-- a part says what it said or the new group, has no bad text, and keeps its label
pub record IsOneOf (pool : List ℕ) (array : ℕ) (new : Group) (before after : Part) : Type 0 where
  pub group : (after.group ≡ before.group) ⊎ (after.group ≡ Some new)
  pub sound : has_bad_text after ≡ false
  pub labelled : has_own_label pool array before ≡ true → has_own_label pool array after ≡ true

and_both : (p q : Bool) → p ≡ true → q ≡ true → (p && q) ≡ true
and_both p q e f = rw (e, f) refl

and_parts : (p q : Bool) → (p && q) ≡ true → (p ≡ true) × (q ≡ true)
and_parts true q e = (refl, e)
and_parts false q e = cc

abbrev is_own : List ℕ → ℕ → Label → Bool
is_own pool array label = bytes_eq label.pv_id (label_id (pv_id pool array))

pub labelled_by : (pool : List ℕ) (array : ℕ) (part : Part) (label : Option Label) (header : Option Header) → part.label ≡ label → part.header ≡ header
    → option_map_or (is_own pool array) label false ≡ true → is_some header ≡ true → has_own_label pool array part ≡ true
labelled_by pool array part label header label_is header_is own some =
    and_both (option_map_or (is_own pool array) part.label false) (is_some part.header) (ap (λ (o : Option Label). option_map_or (is_own pool array) o false) label_is ∙ own) (ap is_some header_is ∙ some)

pub kept_says : (pool : List ℕ) (array sectors : ℕ) (text : List ℕ) (a i : Array) (new : Group) → IsWriting pool array sectors text a i → has_bad_text (part_of a sectors) ≡ false
    → IsOneOf pool array new (part_of a sectors) (part_of i sectors)
kept_says pool array sectors text a i new is sound =
    let labels = label_kept pool array sectors text a i is in
    let headers = header_kept pool array sectors text a i is in
    let bare = bare_header a sectors sound in
    let before = own_part a sectors is.own bare in
    let bare_too : label_on i ≡ None → first_location (header_on i) ≡ None = λ none. elim labels [
      | inl same ↦ location_kept a i headers ∙ bare (sym same ∙ none)
      | inr put ↦ cc
    ] in
    let after = own_part i sectors (area_kept pool array sectors text a i is) bare_too in
    let group : (part_of i sectors).group ≡ (part_of a sectors).group = after.group ∙ said_kept pool array sectors text a i is ∙ sym before.group in
    let location : first_location (part_of i sectors).header ≡ first_location (part_of a sectors).header =
    ap first_location after.header ∙ location_kept a i headers ∙ sym (ap first_location before.header) in
    record {
      group = inl group;
      sound = (λ j. is_some (location j) && not (is_some (group j))) ∙ sound;
      labelled = λ own.
          let parts = and_parts (option_map_or (is_own pool array) (part_of a sectors).label false) (is_some (part_of a sectors).header) own in
          let own_before : option_map_or (is_own pool array) (label_on a) false ≡ true = sym (ap (λ (o : Option Label). option_map_or (is_own pool array) o false) before.label) ∙ parts.0 in
          let some_before : is_some (header_on a) ≡ true = sym (ap is_some before.header) ∙ parts.1 in
          labelled_by pool array (part_of i sectors) (label_on i) (header_on i) after.label after.header
          (elim labels [
            | inl same ↦ ap (λ (o : Option Label). option_map_or (is_own pool array) o false) same ∙ own_before
            | inr put ↦ ap (λ (o : Option Label). option_map_or (is_own pool array) o false) put ∙ same_bytes (label_id (pv_id pool array))
          ])
          (elim headers [ inl same ↦ ap is_some same ∙ some_before | inr put ↦ ap is_some put.1 ]);
    }

-- a label of the array's with a header behind it
pub labelled_there : (pool : List ℕ) (array sectors : ℕ) (x : Array) → HaveLabelsDecoded → IsLabel (own_label pool array sectors) → x 1 ≡ label_bytes (own_label pool array sectors)
    → starts_with nat_eq (x 0) label_word ≡ false → is_some (header_on x) ≡ true → has_own_label pool array (part_of x sectors) ≡ true
labelled_there pool array sectors x labels is_label put free some =
    let found : label_on x ≡ Some (own_label pool array sectors) = rw (put, labels (own_label pool array sectors) (x 0) (x 2 ∷ x 3 ∷ []) is_label free) refl in
    let part = part_some x sectors (own_label pool array sectors) found refl in
    ap (has_own_label pool array) part ∙ and_both (is_own pool array (own_label pool array sectors)) (is_some (header_on x)) (same_bytes (label_id (pv_id pool array))) some
