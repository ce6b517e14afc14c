-- What stands in an array for its volume group: a label with its metadata area, a header, and the text at the
-- header's first location.
use Rattle.std.specs.Prelude.{ℕ, zero, suc, min, ◌++◌, ◌+◌, ◌-◌, ◌*◌, ◌/◌, ◌%◌, ◌==◌, ◌&&◌, Bool, nat_le, nat_lt, not, is_some, if◌then◌else◌, List, [], ◌∷◌, slice_get, Option, Some, None, option_map}
use Rattle.std.specs.Option.{option_and_then}
use Rattle.std.specs.Result.{result_ok}
use Rattle.shr_base.specs.Crc.{lvm_crc_of}
use Rattle.lvm_label.specs.declared.label.Area.{Area}
use Rattle.lvm_label.specs.declared.label.Label.{Label}
use Rattle.lvm_label.specs.declared.header.Location.{Location}
use Rattle.lvm_label.specs.declared.header.Header.{Header}
use Rattle.lvm_label.specs.Label.{label_in}
use Rattle.lvm_label.specs.Header.{header_of}
use Rattle.lvm_text.specs.declared.group.Group.{Group}
use Rattle.lvm_text.specs.Group.{group_of}
use Rattle.lvm_group.specs.declared.parts.Part.{Part}

-- An array is its sectors by number; what can't be read or lies past its end is the empty list, which is no label, no
-- header and no byte of a text.
abbrev pub Array : Type 0
Array = ℕ → List ℕ

-- ---- label and header

-- the label of an array
abbrev pub label_on : Array → Option Label
label_on a = result_ok (label_in 0 (a 0 ∷ a 1 ∷ a 2 ∷ a 3 ∷ []))

-- the first metadata area of a label; a size of 0 goes up to the end of the array, which has so many sectors
abbrev pub whole_area : ℕ → Area → Area
whole_area sectors area = record { offset = area.offset; size = if area.size == 0 then 512 * sectors - area.offset else area.size }

abbrev pub area_of : ℕ → Label → Option Area
area_of sectors label = option_map (whole_area sectors) (slice_get label.metadata.items 0)

-- the header at the start of an area, which is the start of a sector
abbrev pub header_at : Array → Area → Option Header
header_at a area = if area.offset % 512 == 0 then result_ok (header_of (a (area.offset / 512))) else None

-- where the header stands on an array without a label
abbrev pub own_header_sector : ℕ
own_header_sector = 8

-- ---- text

-- a byte of an array
abbrev pub byte_at : Array → ℕ → Option ℕ
byte_at a place = slice_get (a (place / 512)) (place % 512)

-- the bytes, where each of them is there
abbrev pub with_byte : Option ℕ → Option (List ℕ) → Option (List ℕ)
with_byte byte bytes = option_and_then (λ b. option_map (λ (bs : List ℕ). b ∷ bs) bytes) byte

-- bytes that lie in a row, from a place on
unfoldable pub row_at : Array → ℕ → ℕ → Option (List ℕ)
row_at a place zero = Some []
row_at a place (suc count) = with_byte (byte_at a place) (row_at a (place + 1) count)

-- bytes behind others
abbrev pub behind : List ℕ → Option (List ℕ) → Option (List ℕ)
behind front back = option_map (λ (bytes : List ℕ). front ++ bytes) back

-- how many bytes of a text stand before the end of its area
abbrev pub before_end : Area → Location → ℕ
before_end area location = min location.size (area.size - location.offset)

-- the bytes at a location; past the end of the area they go on behind the header
unfoldable pub text_at : Array → Area → Location → Option (List ℕ)
text_at a area location =
    option_and_then (λ (front : List ℕ). behind front (row_at a (area.offset + 512) (location.size - before_end area location)))
    (row_at a (area.offset + location.offset) (before_end area location))

-- the longest text
abbrev pub most_text : ℕ
most_text = 262144

-- a location is inside an area, and its text is no longer than this
abbrev pub is_inside : Area → Location → Bool
is_inside area location =
    nat_le 512 location.offset && (nat_lt location.offset area.size && (nat_le location.size (area.size - 512) && nat_le location.size most_text))

-- the group that a text of this sum says
abbrev pub group_by : Location → List ℕ → Option Group
group_by location text = if location.crc == lvm_crc_of text then result_ok (group_of text) else None

-- the group at a location
unfoldable pub group_at : Array → Area → Location → Option Group
group_at a area location = if is_inside area location then option_and_then (group_by location) (text_at a area location) else None

-- ---- an array's part of the group

-- the first location of a header
abbrev pub location_in : Header → Option Location
location_in header = slice_get header.locations.items 0

-- the group of the text at a header's first location
abbrev pub group_in_area : Array → Option Area → Option Header → Option Group
group_in_area a area header = option_and_then (λ h. option_and_then (λ p. option_and_then (λ l. group_at a p l) (location_in h)) area) header

-- with a label the header is that of the label's first metadata area, and without one a header in sector 8 has no area
unfoldable pub part_by : Array → Array → ℕ → Option Label → Part
part_by headers texts sectors None = record { label = None; header = result_ok (header_of (headers own_header_sector)); group = None }
part_by headers texts sectors (Some label) =
    let area = area_of sectors label in
    let header = option_and_then (header_at headers) area in
    record { label = Some label; header = header; group = group_in_area texts area header }

-- what stands in an array of so many sectors, where label, header and text are read one after the other
abbrev pub part_from : Array → Array → Array → ℕ → Part
part_from labels headers texts sectors = part_by headers texts sectors (label_on labels)

-- what stands in an array
abbrev pub part_of : Array → ℕ → Part
part_of a sectors = part_from a a a sectors

-- a header has a location that gives no group
abbrev pub has_bad_text : Part → Bool
has_bad_text part = is_some (option_and_then location_in part.header) && not (is_some part.group)
