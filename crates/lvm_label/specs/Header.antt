-- The header at the start of a metadata area: where the area lies, and where in it the texts stand.
use Rattle.std.specs.Prelude.{◌≡◌, ◌≢◌, ℕ, zero, suc, ◌<◌, ◌≤◌, ◌^◌, Bool, false, ◌&&◌, ◌==◌, not, nat_eq, if◌then◌else◌, List, [], ◌∷◌, ◌++◌, length, drop, codes, Option, Some, None, Result, Ok, Err, option_map, ok_or}
use Rattle.std.specs.List.{starts_with, flat_map, AllByRecursion}
use Rattle.byteorder.specs.Endian.{little_bytes}
use Rattle.shr_base.specs.Crc.{lvm_crc_of}
use Rattle.lvm_label.specs.Fields.{number_at, padded}
use Rattle.lvm_label.specs.declared.LabelFault.{LabelFault}
use Rattle.lvm_label.specs.declared.LabelFault.TheVariants.{BadCrc, BadHeader}
use Rattle.lvm_label.specs.declared.header.Location.{Location}
use Rattle.lvm_label.specs.declared.header.Header.{Header}

abbrev pub header_magic : List ℕ
header_magic = codes " LVM2 x[5A%r0N*>"

-- ---- reading

-- the location that the bytes begin with
abbrev pub location_at : List ℕ → Location
location_at bytes =
    record { offset = number_at 8 0 bytes; size = number_at 8 8 bytes; crc = number_at 4 16 bytes; flags = number_at 4 20 bytes }

abbrev pub before : Location → Option (List Location) → Option (List Location)
before location found = option_map (λ (locations : List Location). location ∷ locations) found

-- the locations up to one whose offset is 0, at most so many
unfoldable pub locations_at : ℕ → List ℕ → Option (List Location)
locations_at zero bytes = if number_at 8 0 bytes == 0 then Some [] else None
locations_at (suc room) bytes =
    if number_at 8 0 bytes == 0 then Some []
    else before (location_at bytes) (locations_at room (drop 24 bytes))

abbrev pub header_from : ℕ → ℕ → List Location → Header
header_from start size locations = record { start = start; size = size; locations = record { items = locations } }

-- magic and version are those of LVM2's text format
abbrev pub are_header_fields : List ℕ → Bool
are_header_fields sector = starts_with nat_eq (drop 4 sector) header_magic && number_at 4 20 sector == 1

-- the header in a sector, or its first fault
unfoldable pub header_of : List ℕ → Result Header LabelFault
header_of sector =
    if not (number_at 4 0 sector == lvm_crc_of (drop 4 sector)) then Err BadCrc
    else if are_header_fields sector then
    ok_or (option_map (λ (locations : List Location). header_from (number_at 8 24 sector) (number_at 8 32 sector) locations) (locations_at 4 (drop 40 sector))) BadHeader
    else Err BadHeader

-- ---- writing

unfoldable pub location_bytes : Location → List ℕ
location_bytes location =
    little_bytes 8 location.offset ++ little_bytes 8 location.size ++ little_bytes 4 location.crc ++ little_bytes 4 location.flags

-- what the CRC is taken over; the zeros behind the locations end their list
unfoldable pub header_body : Header → List ℕ
header_body header =
    padded 508 (header_magic ++ little_bytes 4 1 ++ little_bytes 8 header.start ++ little_bytes 8 header.size ++ flat_map location_bytes header.locations.items)

unfoldable pub header_bytes : Header → List ℕ
header_bytes header = little_bytes 4 (lvm_crc_of (header_body header)) ++ header_body header

-- no location is the end of the list
abbrev pub HasRealLocations : Header → Type 0
HasRealLocations header = AllByRecursion (λ (location : Location). (location.offset == 0) ≡ false) header.locations.items

-- a location's fields fit, and it doesn't end the list
pub record IsLocation (location : Location) : Type 0 where
  pub offset : location.offset < 2 ^ 64
  pub real : location.offset ≢ 0
  pub size : location.size < 2 ^ 64
  pub crc : location.crc < 2 ^ 32
  pub flags : location.flags < 2 ^ 32

-- what a value of the type `Header` keeps, with real locations
pub record IsHeader (header : Header) : Type 0 where
  pub start : header.start < 2 ^ 64
  pub size : header.size < 2 ^ 64
  pub few : length header.locations.items ≤ 4
  pub each : AllByRecursion IsLocation header.locations.items

-- what is written is read again
abbrev pub HaveHeadersDecoded : Type 0
HaveHeadersDecoded = (header : Header) → IsHeader header → header_of (header_bytes header) ≡ Ok header
