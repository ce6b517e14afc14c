-- What a change writes on the arrays: labels, headers and the new text.
use Rattle.std.specs.Prelude.{◌≡◌, ℕ, zero, suc, ◌+◌, ◌-◌, ◌*◌, ◌/◌, ◌^◌, ◌<◌, ◌≤◌, Bool, List, [], ◌∷◌, ◌++◌, nat_lt, if◌then◌else◌, true, false, slice_get, unwrap_or, length, take, drop, Some, Result, Ok, OnOk, IfErr}
use Rattle.lvm_label.specs.declared.label.Area.{Area}
use Rattle.lvm_label.specs.declared.label.Label.{Label}
use Rattle.lvm_label.specs.declared.header.Location.{Location}
use Rattle.lvm_label.specs.declared.header.Header.{Header}
use Rattle.lvm_label.specs.Fields.{padded}
use Rattle.lvm_label.specs.Label.{HaveLabelsDecoded, IsLabel, label_bytes, label_from}
use Rattle.lvm_label.specs.Header.{HaveHeadersDecoded, IsLocation, header_bytes, header_from}
use Rattle.lvm_text.specs.declared.group.Group.{Group}
use Rattle.lvm_text.specs.Group.{group_of}
use Rattle.shr_base.specs.Crc.{lvm_crc_of}
use Rattle.rack.specs.declared.Gone.{Gone}
use Rattle.rack.specs.Seen.{RackView, IsLive, Rose}
use Rattle.rack.specs.Sequences.{IsPayload, WritesOnly}
use Rattle.rack.specs.Targets.{Target, target, look}
use Rattle.lvm_group.specs.declared.starts.TextStart.{TextStart}
use Rattle.lvm_group.specs.Ids.{label_id, pv_id}

-- ---- what is written

-- where the metadata area begins, and its bytes: up to the first extent
abbrev pub area_start : ℕ
area_start = 4096

abbrev pub area_size : ℕ
area_size = 1044480

abbrev pub own_area : Area
own_area = record { offset = area_start; size = area_size }

-- a label with this id, for an array of so many sectors: the data from the first extent on, and the metadata area
abbrev pub label_with : List ℕ → ℕ → Label
label_with pv_id sectors = label_from pv_id (512 * sectors) (record { offset = 1048576; size = 0 } ∷ []) (own_area ∷ [])

abbrev pub own_label : List ℕ → ℕ → ℕ → Label
own_label pool array sectors = label_with (label_id (pv_id pool array)) sectors

-- a header with these locations
abbrev pub own_header : List Location → Header
own_header locations = header_from area_start area_size locations

-- the location of a text from an offset of the area on
abbrev pub own_location : ℕ → List ℕ → Location
own_location offset text = record { offset = offset; size = length text; crc = lvm_crc_of text; flags = 0 }

-- ---- where a text stands

-- the sectors of a text, the last one filled up with zeros
abbrev pub text_sectors : List ℕ → ℕ
text_sectors text = (length text + 511) / 512

unfoldable pub piece : List ℕ → ℕ → List ℕ
piece text k = padded 512 (take 512 (drop (512 * k) text))

-- the sector of an array that has a text's sector of this number, where the text begins in a sector of the area. Past the end of
-- the area it goes on behind the header.
abbrev pub place_at : ℕ → ℕ → ℕ
place_at first k = if nat_lt (first + k) 2040 then 8 + (first + k) else 8 + (first + k - 2039)

-- ---- targets in a row

unfoldable pub targets_to : (ℕ → List Target) → ℕ → List Target
targets_to f zero = []
targets_to f (suc n) = targets_to f n ++ f n

abbrev pub text_targets : ℕ → ℕ → List ℕ → List Target
text_targets array first text = targets_to (λ k. target array (place_at first k) (piece text k) ∷ []) (text_sectors text)

-- an array that has no header is written from the first sector behind it on
abbrev pub fresh : TextStart
fresh = record { sector = 1; blank = true }

-- where an array's text is to begin
abbrev pub start_at : List TextStart → ℕ → TextStart
start_at starts array = unwrap_or (slice_get starts array) fresh

-- where each begins in the area, behind the header
abbrev pub AreStarts : List TextStart → Type 0
AreStarts starts = (array : ℕ) → (1 ≤ (start_at starts array).sector) × ((start_at starts array).sector < 2040)

-- an empty header, where there is none
abbrev pub blank_targets : ℕ → Bool → List Target
blank_targets array true = target array 8 (header_bytes (own_header [])) ∷ []
blank_targets array false = []

-- label, empty header and text
abbrev pub label_targets : List ℕ → ℕ → ℕ → List Target
label_targets pool array sectors = target array 1 (label_bytes (own_label pool array sectors)) ∷ []

abbrev pub first_targets : List ℕ → (ℕ → ℕ) → List TextStart → List ℕ → ℕ → List Target
first_targets pool sectors starts text array =
    (label_targets pool array (sectors array) ++ blank_targets array (start_at starts array).blank) ++ text_targets array (start_at starts array).sector text

-- the header that has the text
abbrev pub header_target : List TextStart → List ℕ → ℕ → List Target
header_target starts text array = target array 8 (header_bytes (own_header (own_location (512 * (start_at starts array).sector) text ∷ []))) ∷ []

-- what is written on the first arrays, so many, for a new text: the headers with the text come last
abbrev pub new_targets : List ℕ → (ℕ → ℕ) → List TextStart → List ℕ → ℕ → List Target
new_targets pool sectors starts text n = targets_to (first_targets pool sectors starts text) n ++ targets_to (header_target starts text) n

-- ---- calls in a row that may be cut off

-- These targets were written, or a call was refused, whose disk's faults rose. A target that was written is current once all
-- were; a rack that refuses only what is spent has a spent sector there.
pub record Puts (a b : RackView) (xs : List Target) {X : Type 0} (result : Result X Gone) : Type 0 where
  pub only : WritesOnly a b (IsPayload xs)
  pub gone : IfErr result (λ e. (e.disk < a.disks) × Rose (a.faults e.disk) (b.faults e.disk))
  pub spent : a.steady → IfErr result (λ e. (sector : ℕ) × (b.spent e.disk sector ≡ true))
  pub done : OnOk result ((d s : ℕ) (w : List ℕ) → IsLive a b d s → look xs d s ≡ Some w → (b.held d s).current ≡ w)

-- what is written of the text of a group on the first arrays, so many, is read again: labels, headers, locations and the text
pub record IsReadBack (pool text : List ℕ) (n : ℕ) (sectors : ℕ → ℕ) (group : Group) : Type 0 where
  pub labels : HaveLabelsDecoded
  pub headers : HaveHeadersDecoded
  pub label : (array : ℕ) → array < n → IsLabel (own_label pool array (sectors array))
  pub location : (offset : ℕ) → 0 < offset → offset < 2 ^ 64 → IsLocation (own_location offset text)
  pub short : length text ≤ 262144
  pub read : group_of text ≡ Ok group
