-- The label of an LVM2 physical volume: a sector that begins with LABELONE, and from its offset on the
-- id, the device's size and two lists of areas.
use Rattle.std.specs.Prelude.{◌≡◌, ℕ, zero, suc, ◌+◌, ◌<◌, ◌≤◌, ◌^◌, Bool, false, ◌&&◌, ◌==◌, not, nat_le, nat_lt, nat_eq, if◌then◌else◌, List, [], ◌∷◌, ◌++◌, length, take, drop, replicate, codes, Option, Some, None, Result, Ok, Err, option_map, option_and_then, ok_or}
use Rattle.std.specs.List.{starts_with, flat_map, AllByRecursion}
use Rattle.byteorder.specs.Endian.{little_bytes}
use Rattle.shr_base.specs.Crc.{lvm_crc_of}
use Rattle.lvm_label.specs.Fields.{AreBytes, number_at, padded}
use Rattle.lvm_label.specs.declared.LabelFault.{LabelFault}
use Rattle.lvm_label.specs.declared.LabelFault.TheVariants.{NoLabel, BadCrc, BadHeader}
use Rattle.lvm_label.specs.declared.label.Area.{Area}
use Rattle.lvm_label.specs.declared.label.Label.{Label}

abbrev pub label_word : List ℕ
label_word = codes "LABELONE"

abbrev pub label_type : List ℕ
label_type = codes "LVM2 001"

-- ---- lists of areas

-- the area that the bytes begin with
abbrev pub area_at : List ℕ → Area
area_at bytes = record { offset = number_at 8 0 bytes; size = number_at 8 8 bytes }

-- the pair of zeros that ends a list
abbrev pub ends_list : Area → Bool
ends_list area = area.offset == 0 && area.size == 0

abbrev pub with_first : Area → Option (List Area × List ℕ) → Option (List Area × List ℕ)
with_first area found = option_map (λ (x : List Area × List ℕ). (area ∷ x.0, x.1)) found

-- the areas up to the pair of zeros, at most so many, and the bytes behind it
unfoldable pub areas_at : ℕ → List ℕ → Option (List Area × List ℕ)
areas_at zero bytes =
    if nat_lt (length bytes) 16 then None
    else if ends_list (area_at bytes) then Some ([], drop 16 bytes)
    else None
areas_at (suc room) bytes =
    if nat_lt (length bytes) 16 then None
    else if ends_list (area_at bytes) then Some ([], drop 16 bytes)
    else with_first (area_at bytes) (areas_at room (drop 16 bytes))

-- ---- reading

abbrev pub label_from : List ℕ → ℕ → List Area → List Area → Label
label_from pv_id device_size areas metadata =
    record { pv_id = pv_id; device_size = device_size; areas = record { items = areas }; metadata = record { items = metadata } }

-- the fields from the id on
unfoldable pub fields_at : List ℕ → Option Label
fields_at bytes =
    option_and_then (λ (areas : List Area × List ℕ).
    option_and_then (λ (metadata : List Area × List ℕ). Some (label_from (take 32 bytes) (number_at 8 32 bytes) areas.0 metadata.0))
    (areas_at 8 areas.1))
    (areas_at 8 (drop 40 bytes))

-- the fixed fields are those of a label of LVM2 in the sector of this number
abbrev pub are_fixed_fields : ℕ → List ℕ → Bool
are_fixed_fields number sector =
    number_at 8 8 sector == number && starts_with nat_eq (drop 24 sector) label_type && nat_le 32 (number_at 4 20 sector) && nat_le (number_at 4 20 sector) 448

-- the label in a sector that begins with the word, or its first fault
unfoldable pub label_of : ℕ → List ℕ → Result Label LabelFault
label_of number sector =
    if not (number_at 4 16 sector == lvm_crc_of (drop 20 sector)) then Err BadCrc
    else if are_fixed_fields number sector then ok_or (fields_at (drop (number_at 4 20 sector) sector)) BadHeader
    else Err BadHeader

-- the label in the first of the sectors that begins with the word, where they are numbered from here on
unfoldable pub label_in : ℕ → List (List ℕ) → Result Label LabelFault
label_in number [] = Err NoLabel
label_in number (sector ∷ sectors) =
    if starts_with nat_eq sector label_word then label_of number sector else label_in (number + 1) sectors

-- ---- writing

unfoldable pub area_bytes : Area → List ℕ
area_bytes area = little_bytes 8 area.offset ++ little_bytes 8 area.size

abbrev pub area_list_bytes : List Area → List ℕ
area_list_bytes areas = flat_map area_bytes areas ++ replicate 16 0

-- what the CRC is taken over: the offset, the type and the fields
unfoldable pub body_bytes : Label → List ℕ
body_bytes label =
    padded 492 (little_bytes 4 32 ++ label_type ++ label.pv_id ++ little_bytes 8 label.device_size ++ area_list_bytes label.areas.items ++ area_list_bytes label.metadata.items)

-- the label in sector 1
unfoldable pub label_bytes : Label → List ℕ
label_bytes label = label_word ++ little_bytes 8 1 ++ little_bytes 4 (lvm_crc_of (body_bytes label)) ++ body_bytes label

-- no area is the pair of zeros
abbrev pub AreReal : List Area → Type 0
AreReal areas = AllByRecursion (λ (area : Area). ends_list area ≡ false) areas

abbrev pub HasRealAreas : Label → Type 0
HasRealAreas label = AreReal label.areas.items × AreReal label.metadata.items

-- an area's fields fit, and it isn't the pair of zeros
pub record IsArea (area : Area) : Type 0 where
  pub offset : area.offset < 2 ^ 64
  pub size : area.size < 2 ^ 64
  pub real : ends_list area ≡ false

-- what a value of the type `Label` keeps, with real areas
pub record IsLabel (label : Label) : Type 0 where
  pub id_length : length label.pv_id ≡ 32
  pub id_bytes : AreBytes label.pv_id
  pub device_size : label.device_size < 2 ^ 64
  pub few_areas : length label.areas.items ≤ 8
  pub areas : AllByRecursion IsArea label.areas.items
  pub few_metadata : length label.metadata.items ≤ 8
  pub metadata : AllByRecursion IsArea label.metadata.items

-- what is written is read again, where it stands in sector 1 behind a sector without a label
abbrev pub HaveLabelsDecoded : Type 0
HaveLabelsDecoded =
    (label : Label) (first : List ℕ) (others : List (List ℕ)) → IsLabel label → starts_with nat_eq first label_word ≡ false
    → label_in 0 (first ∷ label_bytes label ∷ others) ≡ Ok label
