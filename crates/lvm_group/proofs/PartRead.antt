-- An array's part that was read.
use Rattle.std.proofs.Common.{◌≡◌, ℕ, Option, Some, None, ap, ◌∙◌}
use Rattle.std.specs.Option.{option_and_then}
use Rattle.std.specs.Result.{result_ok}
use Rattle.rack.specs.Seen.{RackView}
use Rattle.lvm_label.specs.declared.label.Area.{Area}
use Rattle.lvm_label.specs.declared.label.Label.{Label}
use Rattle.lvm_label.specs.declared.header.Header.{Header}
use Rattle.lvm_label.specs.Header.{header_of}
use Rattle.lvm_text.specs.declared.group.Group.{Group}
use Rattle.lvm_group.specs.Parts.{Array, label_on, area_of, header_at, group_in_area, own_header_sector, part_by}
use Rattle.rack.specs.Sequences.{OnlyReads}
use Rattle.lvm_group.specs.Reading.{AreRead, held_on}
use Rattle.lvm_group.specs.Found.{IsInArea, IsPart}
use Rattle.lvm_group.proofs.Looking.{looks_same, held_read}
use Rattle.lvm_group.proofs.AreaRead.{all_longer}

-- without a label
pub unlabelled : {a x b : RackView} (array : ℕ) (now labels headers : Array) (header : Option Header) → a.fit → OnlyReads a x → OnlyReads x b
    → AreRead a x array now labels → None ≡ label_on labels → AreRead x b array now headers → header ≡ result_ok (header_of (headers own_header_sector))
    → IsPart a b array now (record { label = None; header = header; group = None })
unfolding part_by
unlabelled {a} {x} {b} array now labels headers header fit first second labels_all none headers_all is = record {
  labels = labels;
  headers = headers;
  texts = held_on a array now;
  labels_read = all_longer array now labels (looks_same a fit) second labels_all;
  headers_read = all_longer array now headers first (looks_same b second.stays.fit) headers_all;
  texts_read = held_read a b array now;
  is = ap (λ h. record { label = None; header = h; group = None }) is ∙ ap (part_by headers (held_on a array now) (a.sectors array)) none;
}

-- with one
pub labelled : {a x b : RackView} (array : ℕ) (now labels : Array) (label : Label) (area : Option Area) (header : Option Header) (group : Option Group) → a.fit → OnlyReads a x → OnlyReads x b
    → AreRead a x array now labels → Some label ≡ label_on labels → area ≡ area_of (a.sectors array) label → IsInArea x b array now area header group
    → IsPart a b array now (record { label = Some label; header = header; group = group })
unfolding part_by
labelled {a} {x} {b} array now labels label area header group fit first second labels_all is area_is found =
    let end = looks_same b second.stays.fit in
    let header_is : header ≡ option_and_then (header_at found.headers) (area_of (a.sectors array) label) = found.header_is ∙ ap (option_and_then (header_at found.headers)) area_is in
    let group_is : group ≡ group_in_area found.texts (area_of (a.sectors array) label) (option_and_then (header_at found.headers) (area_of (a.sectors array) label)) =
    found.group_is ∙ (λ i. group_in_area found.texts (area_is i) (header_is i)) in
    record {
      labels = labels;
      headers = found.headers;
      texts = found.texts;
      labels_read = all_longer array now labels (looks_same a fit) second labels_all;
      headers_read = all_longer array now found.headers first end found.headers_read;
      texts_read = all_longer array now found.texts first end found.texts_read;
      is = (λ i. record { label = Some label; header = header_is i; group = group_is i }) ∙ ap (part_by found.headers found.texts (a.sectors array)) is;
    }
