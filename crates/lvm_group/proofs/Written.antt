-- What stands in arrays on which label, header and text of the pool's group were written: the group.
use Rattle.std.proofs.Common.{◌≡◌, ℕ, zero, suc, ◌+◌, ◌-◌, ◌*◌, ◌<◌, ◌≤◌, ◌==◌, ◌&&◌, Bool, true, false, List, [], ◌∷◌, Option, Some, None, Ok, refl, sym, ap, ◌∙◌, arith, length, map}
use Rattle.std.specs.Prelude.{nat_eq, nat_lt, slice_get}
use Rattle.std.specs.List.{find, range_with_len, starts_with}
use Rattle.std.proofs.lemmas.Bool.{eq-eqb, le-leb, lt-ltb}
use Rattle.shr_base.specs.Crc.{lvm_crc_of}
use Rattle.lvm_label.specs.Label.{HaveLabelsDecoded, IsLabel, label_bytes, label_word}
use Rattle.lvm_label.specs.Header.{HaveHeadersDecoded, IsLocation, header_bytes}
use Rattle.lvm_text.specs.declared.group.Group.{Group}
use Rattle.lvm_text.specs.Group.{group_of}
use Rattle.rack.specs.Seen.{Image}
use Rattle.lvm_group.specs.declared.parts.Part.{Part}
use Rattle.lvm_label.specs.declared.label.Label.{Label}
use Rattle.lvm_group.specs.Ids.{label_id, pv_id}
use Rattle.lvm_group.specs.Images.{HasOwnArea}
use Rattle.lvm_group.specs.Parts.{Array, group_at, header_at, label_on, part_by, part_of}
use Rattle.lvm_group.specs.Group.{ahead, first_bad, group_in, highest, is_bad, is_own_group, names_array, parts_in}
use Rattle.lvm_group.specs.declared.starts.TextStart.{TextStart}
use Rattle.lvm_group.specs.Writing.{AreStarts, area_size, own_area, own_header, own_label, own_location, start_at}
use Rattle.lvm_group.proofs.OwnText.{length_map, same_bytes}
use Rattle.lvm_group.proofs.TextStands.{Stands, whole_text}

-- what an array has that was written on
pub record IsWritten (pool : List ℕ) (array sectors : ℕ) (first : ℕ) (text : List ℕ) (a : Array) : Type 0 where
  pub free : starts_with nat_eq (a 0) label_word ≡ false
  pub label : a 1 ≡ label_bytes (own_label pool array sectors)
  pub is_label : IsLabel (own_label pool array sectors)
  pub header : a 8 ≡ header_bytes (own_header (own_location (512 * first) text ∷ []))
  pub is_location : IsLocation (own_location (512 * first) text)
  pub stands : Stands a first text

-- the part of such an array
abbrev pub written_part : List ℕ → ℕ → ℕ → ℕ → List ℕ → Option Group → Part
written_part pool array sectors first text group =
    record { label = Some (own_label pool array sectors); header = Some (own_header (own_location (512 * first) text ∷ [])); group = group }

label_there : (pool : List ℕ) (array sectors first : ℕ) (text : List ℕ) (a : Array) → HaveLabelsDecoded → IsWritten pool array sectors first text a → label_on a ≡ Some (own_label pool array sectors)
label_there pool array sectors first text a labels is =
    rw (is.label, labels (own_label pool array sectors) (a 0) (a 2 ∷ a 3 ∷ []) is.is_label is.free) refl

pub area_there : (pool : List ℕ) (array sectors first : ℕ) (text : List ℕ) (a : Array) → HaveLabelsDecoded → IsWritten pool array sectors first text a → HasOwnArea a
area_there pool array sectors first text a labels is = record {
  free = is.free;
  area = λ label at.
      let same : Some label ≡ Some (own_label pool array sectors) = sym at ∙ label_there pool array sectors first text a labels is in
      let one : label ≡ own_label pool array sectors = cc in
      ap (λ (l : Label). slice_get l.metadata.items 0) one;
}

header_there : (pool : List ℕ) (array sectors first : ℕ) (text : List ℕ) (a : Array) → HaveHeadersDecoded → IsWritten pool array sectors first text a
    → header_at a own_area ≡ Some (own_header (own_location (512 * first) text ∷ []))
header_there pool array sectors first text a headers is =
    rw (is.header, headers (own_header (own_location (512 * first) text ∷ [])) (record { start = omega arith; size = omega arith; few = omega arith; each = (is.is_location, tt) })) refl

group_there : (pool : List ℕ) (array sectors first : ℕ) (text : List ℕ) (a : Array) (group : Group) → first < 2040 → 1 ≤ first → length text ≤ 262144 → group_of text ≡ Ok group → IsWritten pool array sectors first text a
    → group_at a own_area (own_location (512 * first) text) ≡ Some group
unfolding group_at
group_there pool array sectors first text a group below some short read is =
    rw (
      le-leb 512 (512 * first) (omega arith),
      lt-ltb (512 * first) area_size (omega arith),
      le-leb (length text) (area_size - 512) (omega arith),
      le-leb (length text) 262144 short,
      whole_text a first text below some short is.stands,
      eq-eqb (lvm_crc_of text) (lvm_crc_of text) refl,
      read,
    ) refl

pub part_there : (pool : List ℕ) (array sectors first : ℕ) (text : List ℕ) (a : Array) (group : Group) → HaveLabelsDecoded → HaveHeadersDecoded → first < 2040 → 1 ≤ first → length text ≤ 262144 → group_of text ≡ Ok group
    → IsWritten pool array sectors first text a → part_of a sectors ≡ written_part pool array sectors first text (Some group)
unfolding part_by
part_there pool array sectors first text a group labels headers below some short read is =
    rw (label_there pool array sectors first text a labels is, header_there pool array sectors first text a headers is, group_there pool array sectors first text a group below some short read is) refl

-- ---- all arrays

not_ahead : (group : Group) → ahead group (Some group) ≡ Some group
not_ahead group = go (nat_lt group.seqno group.seqno) refl where
  go : (test : Bool) → nat_lt group.seqno group.seqno ≡ test → ahead group (Some group) ≡ Some group
  go true is = rw is refl
  go false is = rw is refl

highest_same : (group : Group) (xs : List (Option Group)) → 0 < length xs → ((i : ℕ) (o : Option Group) → slice_get xs i ≡ Some o → o ≡ Some group) → highest xs ≡ Some group
unfolding highest
highest_same group [] some all = absurd (omega arith)
highest_same group (o ∷ []) some all = rw (all 0 o refl) refl
highest_same group (o ∷ p ∷ others) some all =
    rw (all 0 o refl, highest_same group (p ∷ others) (omega arith) (λ i q at. all (suc i) q at)) (not_ahead group)

pub mapped_at : {X Y : Type 0} (f : X → Y) (xs : List X) (i : ℕ) (y : Y) → slice_get (map f xs) i ≡ Some y → (x : X) × (slice_get xs i ≡ Some x) × (y ≡ f x)
mapped_at f [] i y at = cc
mapped_at f (x ∷ xs) zero y at = (x, refl, cc)
mapped_at f (x ∷ xs) (suc i) y at = mapped_at f xs i y at

pub range_below : (from count i x : ℕ) → slice_get (range_with_len from count) i ≡ Some x → (from ≤ x) × (x < from + count)
range_below from zero i x at = cc
range_below from (suc count) zero x at = let same : from ≡ x = cc in (omega arith, omega arith)
range_below from (suc count) (suc i) x at = let rest = range_below (from + 1) count i x at in let one = rest.0 in let two = rest.1 in (omega arith, omega arith)

pub find_none : (p : ℕ → Bool) (xs : List ℕ) → ((i x : ℕ) → slice_get xs i ≡ Some x → p x ≡ false) → find p xs ≡ None
find_none p [] fails = refl
find_none p (x ∷ xs) fails = rw (fails 0 x refl) (find_none p xs (λ i y at. fails (suc i) y at))

and_false : (b : Bool) → (b && false) ≡ false
and_false true = refl
and_false false = refl

pub range_long : (from count : ℕ) → length (range_with_len from count) ≡ count
range_long from zero = refl
range_long from (suc count) = ap suc (range_long (from + 1) count)

-- the parts of arrays that were written on
abbrev pub AreWritten : List ℕ → (ℕ → ℕ) → List TextStart → ℕ → List ℕ → Image → Type 0
AreWritten pool sectors starts joined text c = (array : ℕ) → array < joined → IsWritten pool array (sectors array) (start_at starts array).sector text (c array)

-- they are of this group
pub group_written : (pool : List ℕ) (sectors : ℕ → ℕ) (starts : List TextStart) (joined : ℕ) (text : List ℕ) (c : Image) (group : Group) → HaveLabelsDecoded → HaveHeadersDecoded → AreStarts starts → 0 < joined
    → length text ≤ 262144 → group_of text ≡ Ok group → AreWritten pool sectors starts joined text c → group_in c sectors joined ≡ Some group
group_written pool sectors starts joined text c group labels headers inside some short read are =
    let arrays = range_with_len 0 joined in
    let long = length_map (λ (part : Part). part.group) (parts_in c sectors joined) ∙ length_map (λ array. part_of (c array) (sectors array)) arrays ∙ range_long 0 joined in
    highest_same group (map (λ (part : Part). part.group) (parts_in c sectors joined)) (omega arith)
    (λ i o at.
    let part = mapped_at (λ (part : Part). part.group) (parts_in c sectors joined) i o at in
    let array = mapped_at (λ array. part_of (c array) (sectors array)) arrays i part.0 part.1 in
    let below = (range_below 0 joined i array.0 array.1).1 in
    let there = part_there pool array.0 (sectors array.0) (start_at starts array.0).sector text (c array.0) group labels headers (inside array.0).1 (inside array.0).0 short read (are array.0 (omega arith)) in
    part.2 ∙ ap (λ (part : Part). part.group) (array.2 ∙ there))

-- and none of them is bad
pub none_bad : (pool : List ℕ) (extent : ℕ) (sectors : ℕ → ℕ) (starts : List TextStart) (joined : ℕ) (text : List ℕ) (c : Image) (group : Group) → HaveLabelsDecoded → HaveHeadersDecoded → AreStarts starts → 0 < joined
    → length text ≤ 262144 → group_of text ≡ Ok group → is_own_group pool extent sectors joined group ≡ true → AreWritten pool sectors starts joined text c → first_bad pool extent sectors joined c ≡ None
unfolding first_bad
none_bad pool extent sectors starts joined text c group labels headers inside some short read own are =
    find_none (is_bad pool extent sectors joined c) (range_with_len 0 joined)
    (λ i array at.
    let below = (range_below 0 joined i array at).1 in
    let there = part_there pool array (sectors array) (start_at starts array).sector text (c array) group labels headers (inside array).1 (inside array).0 short read (are array (omega arith)) in
    let same = group_written pool sectors starts joined text c group labels headers inside some short read are in
    rw (there, same, same_bytes (label_id (pv_id pool array)), own, and_false (names_array group array), and_false (array == 0)) refl)
