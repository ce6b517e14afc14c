-- What reading an array finds of its group: label, header and text, each in what was read.
use Rattle.std.specs.Prelude.{◌≡◌, ℕ, ◌<◌, List, slice_get, Option, Some}
use Rattle.std.specs.Option.{option_and_then}
use Rattle.rack.specs.Seen.{RackView}
use Rattle.lvm_label.specs.declared.label.Area.{Area}
use Rattle.lvm_label.specs.declared.header.Header.{Header}
use Rattle.lvm_text.specs.declared.group.Group.{Group}
use Rattle.lvm_group.specs.declared.parts.Part.{Part}
use Rattle.lvm_group.specs.Parts.{Array, header_at, group_in_area, part_from}
use Rattle.lvm_group.specs.Reading.{IsNow, AreRead}

-- the header and the group in a metadata area
pub record IsInArea (a b : RackView) (array : ℕ) (now : Array) (area : Option Area) (header : Option Header) (group : Option Group) : Type 0 where
  pub headers : Array
  pub texts : Array
  pub headers_read : AreRead a b array now headers
  pub texts_read : AreRead a b array now texts
  pub header_is : header ≡ option_and_then (header_at headers) area
  pub group_is : group ≡ group_in_area texts area header

-- an array's part
pub record IsPart (a b : RackView) (array : ℕ) (now : Array) (part : Part) : Type 0 where
  pub labels : Array
  pub headers : Array
  pub texts : Array
  pub labels_read : AreRead a b array now labels
  pub headers_read : AreRead a b array now headers
  pub texts_read : AreRead a b array now texts
  pub is : part ≡ part_from labels headers texts (a.sectors array)

-- the parts of the first arrays, so many
abbrev pub AreParts : RackView → RackView → ℕ → List Part → Type 0
AreParts a b joined parts =
    (array : ℕ) (now : Array) → array < joined → IsNow a array now → (part : Part) × (slice_get parts array ≡ Some part) × IsPart a b array now part
