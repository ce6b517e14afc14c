-- A label that was written is read again.
use Rattle.std.proofs.Common.{◌≡◌, ℕ, zero, suc, ◌+◌, ◌-◌, ◌≤◌, rules, true, false, eqb, nat_eq, List, [], ◌∷◌, ◌++◌, length, take, drop, replicate, Some, Ok, refl, sym, ap, ◌∙◌, append_assoc, arith}
use Rattle.std.specs.List.{AllByRecursion, flat_map, starts_with}
use Rattle.std.proofs.lemmas.Bool.{eq-eqb}
use Rattle.std.proofs.Math.Seq.{drop-append-add}
use Rattle.std.proofs.lemmas.List.{take_at, drop_at, length-append}
use Rattle.byteorder.specs.Endian.{little_bytes, little_number}
use Rattle.shr_base.specs.Crc.{lvm_crc_of}
use Rattle.lvm_label.specs.Fields.{AreBytes, number_at, padded}
use Rattle.lvm_label.specs.declared.label.Area.{Area}
use Rattle.lvm_label.specs.declared.label.Label.{Label}
use Rattle.lvm_label.specs.Label.{area_at, areas_at, area_bytes, area_list_bytes, are_fixed_fields, body_bytes, fields_at, label_bytes, label_in, label_of, label_type, label_word, with_first, IsArea, IsLabel}
use Rattle.lvm_label.proofs.Areas.{areas_at-end, areas_at-more}
use Rattle.lvm_label.proofs.RoundTrip.{little_8, little_4, AreBytes-append, AreBytes-little_8, AreBytes-zeros, AreBytes-padded, lvm_crc-below}

area_at-bytes : (area : Area) (rest : List ℕ) → IsArea area → area_at (area_bytes area ++ rest) ≡ area
unfolding area_bytes
area_at-bytes area rest h = rw (little_8 area.offset h.offset, little_8 area.size h.size) refl

drop-bytes : (area : Area) (rest : List ℕ) → drop 16 (area_bytes area ++ rest) ≡ rest
unfolding area_bytes
drop-bytes area rest = refl

long-bytes : (area : Area) (rest : List ℕ) → 16 ≤ length (area_bytes area ++ rest)
unfolding area_bytes
long-bytes area rest = omega (arith, length-append (area_bytes area) rest)

areas_at-bytes : (areas : List Area) (room : ℕ) (rest : List ℕ) → length areas ≤ room → AllByRecursion IsArea areas → areas_at room (area_list_bytes areas ++ rest) ≡ Some (areas, rest)
areas_at-bytes [] room rest few each =
    areas_at-end room (replicate 16 0 ++ rest) (omega (arith, length-append (replicate 16 0) rest)) refl
areas_at-bytes (area ∷ areas) zero rest few each = absurd (omega arith)
areas_at-bytes (area ∷ areas) (suc room) rest few each =
    let others : List ℕ = area_list_bytes areas ++ rest in
    let first : area_at (area_bytes area ++ others) ≡ area = area_at-bytes area others each.0 in
    let grouped : area_list_bytes (area ∷ areas) ++ rest ≡ area_bytes area ++ others =
    ap (λ (t : List ℕ). t ++ rest) (append_assoc (area_bytes area) (flat_map area_bytes areas) (replicate 16 0))
    ∙ append_assoc (area_bytes area) (area_list_bytes areas) rest in
    ap (areas_at (suc room)) grouped
    ∙ areas_at-more room (area_bytes area ++ others) (long-bytes area others) (ap Rattle.lvm_label.specs.Label.ends_list first ∙ each.0.real)
    ∙ ap (λ (a : Area). with_first a (areas_at room (drop 16 (area_bytes area ++ others)))) first
    ∙ ap (λ (bytes : List ℕ). with_first area (areas_at room bytes)) (drop-bytes area others)
    ∙ ap (with_first area) (areas_at-bytes areas room rest (omega arith) each.1)

AreBytes-area : (area : Area) → AreBytes (area_bytes area)
unfolding area_bytes
AreBytes-area area = AreBytes-append (little_bytes 8 area.offset) (little_bytes 8 area.size) (AreBytes-little_8 area.offset) (AreBytes-little_8 area.size)

AreBytes-areas : (areas : List Area) → AreBytes (flat_map area_bytes areas)
AreBytes-areas [] = tt
AreBytes-areas (area ∷ areas) = AreBytes-append (area_bytes area) (flat_map area_bytes areas) (AreBytes-area area) (AreBytes-areas areas)

AreBytes-list : (areas : List Area) → AreBytes (area_list_bytes areas)
AreBytes-list areas = AreBytes-append (flat_map area_bytes areas) (replicate 16 0) (AreBytes-areas areas) (AreBytes-zeros 16)

AreBytes-fixed : AreBytes (little_bytes 4 32 ++ label_type)
AreBytes-fixed = search rules

AreBytes-body_bytes : (label : Label) → AreBytes label.pv_id → AreBytes (body_bytes label)
unfolding body_bytes
AreBytes-body_bytes label h =
    let fixed : List ℕ = little_bytes 4 32 ++ label_type in
    let one : AreBytes (fixed ++ label.pv_id) = AreBytes-append fixed label.pv_id AreBytes-fixed h in
    let two : AreBytes (fixed ++ label.pv_id ++ little_bytes 8 label.device_size) = AreBytes-append (fixed ++ label.pv_id) (little_bytes 8 label.device_size) one (AreBytes-little_8 label.device_size) in
    let three : AreBytes (fixed ++ label.pv_id ++ little_bytes 8 label.device_size ++ area_list_bytes label.areas.items) = AreBytes-append (fixed ++ label.pv_id ++ little_bytes 8 label.device_size) (area_list_bytes label.areas.items) two (AreBytes-list label.areas.items) in
    AreBytes-padded 492 (fixed ++ label.pv_id ++ little_bytes 8 label.device_size ++ area_list_bytes label.areas.items ++ area_list_bytes label.metadata.items)
    (AreBytes-append (fixed ++ label.pv_id ++ little_bytes 8 label.device_size ++ area_list_bytes label.areas.items) (area_list_bytes label.metadata.items) three (AreBytes-list label.metadata.items))

-- the sector, field by field
number_at-crc : (label : Label) → AreBytes label.pv_id → number_at 4 16 (label_bytes label) ≡ lvm_crc_of (body_bytes label)
unfolding label_bytes
number_at-crc label h = little_4 (lvm_crc_of (body_bytes label)) (lvm_crc-below (body_bytes label) (AreBytes-body_bytes label h))

drop-crc : (label : Label) → drop 20 (label_bytes label) ≡ body_bytes label
unfolding label_bytes
drop-crc label = refl

begins : (label : Label) → starts_with nat_eq (label_bytes label) label_word ≡ true
unfolding label_bytes
begins label = refl

fixed_fields : (label : Label) → are_fixed_fields 1 (label_bytes label) ≡ true
unfolding label_bytes body_bytes padded
fixed_fields label = refl

number_at-offset : (label : Label) → number_at 4 20 (label_bytes label) ≡ 32
unfolding label_bytes body_bytes padded
number_at-offset label = refl

-- the bytes from the id on
fields : (label : Label) → List ℕ → List ℕ
fields label rest = label.pv_id ++ (little_bytes 8 label.device_size ++ (area_list_bytes label.areas.items ++ (area_list_bytes label.metadata.items ++ rest)))

regroup : (a b c d e : List ℕ) → a ++ b ++ c ++ d ++ e ≡ a ++ (b ++ (c ++ (d ++ e)))
regroup a b c d e = simp append_assoc

drop-fixed : (label : Label) → (k : ℕ) × (drop 32 (label_bytes label) ≡ fields label (replicate k 0))
unfolding label_bytes body_bytes padded fields
drop-fixed label = (
  492 - length (little_bytes 4 32 ++ label_type ++ label.pv_id ++ little_bytes 8 label.device_size ++ area_list_bytes label.areas.items ++ area_list_bytes label.metadata.items),
  regroup label.pv_id (little_bytes 8 label.device_size) (area_list_bytes label.areas.items) (area_list_bytes label.metadata.items) _,
)

fields_at-fields : (label : Label) (rest : List ℕ) → IsLabel label → fields_at (fields label rest) ≡ Some label
unfolding fields_at fields
fields_at-fields label rest h =
    let behind : List ℕ = little_bytes 8 label.device_size ++ (area_list_bytes label.areas.items ++ (area_list_bytes label.metadata.items ++ rest)) in
    let id : take 32 (label.pv_id ++ behind) ≡ label.pv_id = take_at label.pv_id behind 32 h.id_length in
    let size : number_at 8 32 (label.pv_id ++ behind) ≡ label.device_size = ap (little_number 8) (drop_at label.pv_id behind 32 h.id_length) ∙ little_8 label.device_size h.device_size in
    let lists : drop 40 (label.pv_id ++ behind) ≡ area_list_bytes label.areas.items ++ (area_list_bytes label.metadata.items ++ rest) =
    ap (λ (n : ℕ). drop (n + 8) (label.pv_id ++ behind)) (sym h.id_length) ∙ drop-append-add label.pv_id behind 8 in
    let areas = areas_at-bytes label.areas.items 8 (area_list_bytes label.metadata.items ++ rest) h.few_areas h.areas in
    let metadata = areas_at-bytes label.metadata.items 8 rest h.few_metadata h.metadata in
    rw (lists, areas, metadata, id, size) refl

pub labels_decode : (label : Label) (first : List ℕ) (others : List (List ℕ)) → IsLabel label → starts_with nat_eq first label_word ≡ false → label_in 0 (first ∷ label_bytes label ∷ others) ≡ Ok label
unfolding label_in label_of
labels_decode label first others h other =
    let rest = drop-fixed label in
    let sum : eqb (number_at 4 16 (label_bytes label)) (lvm_crc_of (drop 20 (label_bytes label))) ≡ true =
    eq-eqb _ _ (number_at-crc label h.id_bytes ∙ ap lvm_crc_of (sym (drop-crc label))) in
    let read : fields_at (drop (number_at 4 20 (label_bytes label)) (label_bytes label)) ≡ Some label =
    ap (λ (n : ℕ). fields_at (drop n (label_bytes label))) (number_at-offset label) ∙ ap fields_at rest.1 ∙ fields_at-fields label (replicate rest.0 0) h in
    rw (other, begins label, sum, fixed_fields label, read) refl
