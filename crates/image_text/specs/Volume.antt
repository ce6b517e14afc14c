-- What LVM metadata a stretch of an image holds: the label in its first four sectors, and the header and the text
-- of the first metadata area that the label names. Areas count in bytes from the start of the stretch.
use Rattle.std.specs.Prelude.{ℕ, ◌+◌, ◌-◌, ◌*◌, ◌==◌, ◌&&◌, ◌||◌, nat_le, nat_lt, min, Bool, if◌then◌else◌, List, [], ◌∷◌, ◌++◌, take, Result, Ok, Err}
use Rattle.std.specs.List.{position_or_len}
use Rattle.shr_base.specs.Crc.{lvm_crc_of}
use Rattle.gpt_table.specs.Disk.{Contents}
use Rattle.lvm_label.specs.declared.LabelFault.{LabelFault}
use Rattle.lvm_label.specs.declared.LabelFault.TheVariants as fault
use Rattle.lvm_label.specs.declared.label.Area.{Area}
use Rattle.lvm_label.specs.declared.label.Label.{Label}
use Rattle.lvm_label.specs.declared.header.Header.{Header}
use Rattle.lvm_label.specs.declared.header.Location.{Location}
use Rattle.lvm_label.specs.Label.{label_in}
use Rattle.lvm_label.specs.Header.{header_of}
use Rattle.image_text.specs.declared.volume.Volume.{Volume}
use Rattle.image_text.specs.declared.volume.Volume.TheVariants as volume
use Rattle.image_text.specs.Contents.{bytes_from}

-- the bytes of a text up to its closing zero
abbrev pub is_zero : ℕ → Bool
is_zero byte = byte == 0

abbrev pub before_zero : List ℕ → List ℕ
before_zero bytes = take (position_or_len is_zero bytes) bytes

-- the bytes of an area of a stretch of so many bytes; a size of 0 means up to the stretch's end
abbrev pub area_size : ℕ → Area → ℕ
area_size bytes area = if area.size == 0 then bytes - area.offset else area.size

-- how much of a text stands before the area's end; the rest goes on at the area's byte 512
abbrev pub front_count : ℕ → Location → ℕ
front_count size place = min place.size (size - place.offset)

-- area and text lie inside the stretch, and the text has at most 2^20 bytes
abbrev pub has_text_inside : ℕ → ℕ → Area → Location → Bool
has_text_inside bytes size area place =
    nat_le place.size 1048576
    && nat_le size (bytes - area.offset)
    && nat_le place.offset size
    && (nat_le place.size (size - place.offset) || nat_le (512 + (place.size - (size - place.offset))) size)

-- the bytes of the text, in an area of so many bytes that begins at this byte of the image
abbrev pub text_bytes : Contents → ℕ → ℕ → Location → List ℕ
text_bytes image start size place =
    bytes_from image (start + place.offset) (front_count size place)
    ++ bytes_from image (start + 512) (place.size - front_count size place)

-- a text whose sum is right
abbrev pub checked : ℕ → List ℕ → Volume
checked crc bytes = if lvm_crc_of bytes == crc then volume.Text bytes else volume.BadText

-- the text at the first location
abbrev pub text_at : Contents → ℕ → ℕ → Area → Location → Volume
text_at image base bytes area place =
    if has_text_inside bytes (area_size bytes area) area place
    then checked place.crc (text_bytes image (512 * base + area.offset) (area_size bytes area) place)
    else volume.Outside

abbrev pub first_text : Contents → ℕ → ℕ → Area → List Location → Volume
first_text image base bytes area [] = volume.Empty
first_text image base bytes area (place ∷ places) = text_at image base bytes area place

-- what a header leads to
abbrev pub under_header : Contents → ℕ → ℕ → Area → Result Header LabelFault → Volume
under_header image base bytes area (Ok header) = first_text image base bytes area header.locations.items
under_header image base bytes area (Err fault.BadCrc) = volume.BadCrc
under_header image base bytes area (Err fault.NoLabel) = volume.BadHeader
under_header image base bytes area (Err fault.BadHeader) = volume.BadHeader

-- the header at the start of an area, where it lies inside the stretch
abbrev pub area_at : Contents → ℕ → ℕ → Area → Volume
area_at image base bytes area =
    if nat_le area.offset (bytes - 512)
    then under_header image base bytes area (header_of (bytes_from image (512 * base + area.offset) 512))
    else volume.Outside

abbrev pub first_area : Contents → ℕ → ℕ → List Area → Volume
first_area image base bytes [] = volume.Empty
first_area image base bytes (area ∷ areas) = area_at image base bytes area

-- what a label leads to
abbrev pub under_label : Contents → ℕ → ℕ → Result Label LabelFault → Volume
under_label image base bytes (Ok label) = first_area image base bytes label.metadata.items
under_label image base bytes (Err fault.NoLabel) = volume.Nothing
under_label image base bytes (Err fault.BadCrc) = volume.BadCrc
under_label image base bytes (Err fault.BadHeader) = volume.BadHeader

-- the first four sectors from one on
abbrev pub four_sectors : Contents → ℕ → List (List ℕ)
four_sectors image base = image base ∷ image (base + 1) ∷ image (base + 2) ∷ image (base + 3) ∷ []

-- the metadata of a stretch of so many sectors from this one on
abbrev pub volume_at : Contents → ℕ → ℕ → Volume
volume_at image base sectors =
    if nat_lt sectors 4 then volume.Nothing
    else under_label image base (512 * sectors) (label_in 0 (four_sectors image base))
