-- A metadata area that was read.
use Rattle.std.proofs.Common.{◌≡◌, ℕ, ◌%◌, ◌/◌, Option, Some, None, refl, sym, ap, ◌∙◌}
use Rattle.std.specs.Prelude.{if◌then◌else◌}
use Rattle.std.specs.Option.{option_and_then}
use Rattle.std.specs.Result.{result_ok}
use Rattle.std.proofs.lemmas.Bool.{eq-eqb}
use Rattle.rack.specs.Seen.{RackView}
use Rattle.lvm_label.specs.declared.label.Area.{Area}
use Rattle.lvm_label.specs.declared.header.Header.{Header}
use Rattle.lvm_label.specs.declared.header.Location.{Location}
use Rattle.lvm_label.specs.Header.{header_of}
use Rattle.lvm_text.specs.declared.group.Group.{Group}
use Rattle.lvm_group.specs.Parts.{Array, header_at, location_in, group_at, group_in_area}
use Rattle.rack.specs.Sequences.{OnlyReads}
use Rattle.lvm_group.specs.Reading.{AreRead, held_on}
use Rattle.lvm_group.specs.Found.{IsInArea}
use Rattle.lvm_group.proofs.Looking.{looks_same, read_longer, held_read, differs}

-- what was read over a part of the time
pub all_longer : {a b c d : RackView} (array : ℕ) (now whole : Array) → OnlyReads a b → OnlyReads c d → AreRead b c array now whole → AreRead a d array now whole
all_longer array now whole before after all = λ sector. read_longer array now sector (whole sector) before after (all sector)

-- without an area there is nothing
pub no_area : (a b : RackView) (array : ℕ) (now : Array) (area : Option Area) → area ≡ None → IsInArea a b array now area None None
no_area a b array now area is = record {
  headers = held_on a array now;
  texts = held_on a array now;
  headers_read = held_read a b array now;
  texts_read = held_read a b array now;
  header_is = sym (ap (option_and_then (header_at (held_on a array now))) is);
  group_is = refl;
}

-- nor in one that begins inside a sector
pub odd_area : (a b : RackView) (array : ℕ) (now : Array) (area : Option Area) (r : Area) → area ≡ Some r → (r.offset % 512 ≡ 0 → ⊥) → IsInArea a b array now area None None
odd_area a b array now area r is odd = record {
  headers = held_on a array now;
  texts = held_on a array now;
  headers_read = held_read a b array now;
  texts_read = held_read a b array now;
  header_is = sym (ap (option_and_then (header_at (held_on a array now))) is
      ∙ ap (λ test. if test then result_ok (header_of (held_on a array now (r.offset / 512))) else None) (differs (r.offset % 512) 0 odd));
  group_is = refl;
}

-- the header that was read is the area's
area_header : (c : Array) (area : Option Area) (r : Area) (header : Option Header) → area ≡ Some r → r.offset % 512 ≡ 0 → header ≡ result_ok (header_of (c (r.offset / 512)))
    → header ≡ option_and_then (header_at c) area
area_header c area r header is whole read =
    read ∙ sym (ap (option_and_then (header_at c)) is ∙ ap (λ test. if test then result_ok (header_of (c (r.offset / 512))) else None) (eq-eqb (r.offset % 512) 0 whole))

pub no_header_there : {a b : RackView} (array : ℕ) (now c : Array) (area : Option Area) (r : Area) → area ≡ Some r → r.offset % 512 ≡ 0 → AreRead a b array now c
    → None ≡ result_ok (header_of (c (r.offset / 512))) → IsInArea a b array now area None None
no_header_there {a} {b} array now c area r is whole all read = record {
  headers = c;
  texts = held_on a array now;
  headers_read = all;
  texts_read = held_read a b array now;
  header_is = area_header c area r None is whole read;
  group_is = refl;
}

-- a header without a location has no group
located : (texts : Array) (area : Option Area) (r : Area) (header : Header) (location : Option Location) → area ≡ Some r → location_in header ≡ location
    → group_in_area texts area (Some header) ≡ option_and_then (λ l. group_at texts r l) location
located texts area r header location is there =
    ap (option_and_then (λ p. option_and_then (λ l. group_at texts p l) (location_in header))) is ∙ ap (option_and_then (λ l. group_at texts r l)) there

pub no_location : {a b : RackView} (array : ℕ) (now c : Array) (area : Option Area) (r : Area) (header : Header) → area ≡ Some r → r.offset % 512 ≡ 0 → AreRead a b array now c
    → Some header ≡ result_ok (header_of (c (r.offset / 512))) → location_in header ≡ None → IsInArea a b array now area (Some header) None
no_location {a} {b} array now c area r header is whole all read none = record {
  headers = c;
  texts = held_on a array now;
  headers_read = all;
  texts_read = held_read a b array now;
  header_is = area_header c area r (Some header) is whole read;
  group_is = sym (located (held_on a array now) area r header None is none);
}

-- and one with a location has that of its text
pub area_group : {a x b : RackView} (array : ℕ) (now c texts : Array) (area : Option Area) (r : Area) (header : Header) (location : Location) (group : Option Group)
    → area ≡ Some r → r.offset % 512 ≡ 0 → OnlyReads a x → OnlyReads x b → a.fit → AreRead a x array now c → AreRead x b array now texts
    → Some header ≡ result_ok (header_of (c (r.offset / 512))) → location_in header ≡ Some location → group ≡ group_at texts r location
    → IsInArea a b array now area (Some header) group
area_group {a} {x} {b} array now c texts area r header location group is whole first second fit all texts_all read there said = record {
  headers = c;
  texts = texts;
  headers_read = all_longer array now c (looks_same a fit) second all;
  texts_read = all_longer array now texts first (looks_same b second.stays.fit) texts_all;
  header_is = area_header c area r (Some header) is whole read;
  group_is = said ∙ sym (located texts area r header (Some location) is there);
}
