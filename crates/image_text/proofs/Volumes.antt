-- What a label and a header lead to.
use Rattle.std.proofs.Common.{◌≡◌, ℕ, ◌+◌, ◌-◌, ◌*◌, ◌≤◌, nat_le, nat_lt, true, false, List, ◌∷◌, Ok, refl, inl, inr, ap, arith}
use Rattle.std.proofs.lemmas.Bool.{cases_lt}
use Rattle.std.proofs.lemmas.Bool.Decides.{nat_tests}
use Rattle.gpt_table.specs.Disk.{Contents}
use Rattle.lvm_label.specs.declared.label.Area.{Area}
use Rattle.lvm_label.specs.declared.label.Label.{Label}
use Rattle.lvm_label.specs.declared.header.Header.{Header}
use Rattle.lvm_label.specs.declared.header.Location.{Location}
use Rattle.lvm_label.specs.Label.{label_in}
use Rattle.lvm_label.specs.Header.{header_of}
use Rattle.image_text.specs.Contents.{bytes_from}
use Rattle.image_text.specs.Volume.{area_at, text_at, volume_at, four_sectors}

-- a header inside the place, with a first location
pub area_there : (image : Contents) (base bytes : ℕ) (area : Area) (header : Header) (place : Location) (others : List Location)
    → area.offset ≤ bytes - 512 → Ok header ≡ header_of (bytes_from image (512 * base + area.offset) 512)
    → header.locations.items ≡ place ∷ others → text_at image base bytes area place ≡ area_at image base bytes area
area_there image base bytes area header place others inside read items =
    let test : nat_le area.offset (bytes - 512) ≡ true = grind (arith, nat_tests) in
    rw (test, ← read, items) refl

-- a label with a first metadata area
pub label_there : (image : Contents) (base sectors : ℕ) (label : Label) (area : Area) (others : List Area)
    → 4 ≤ sectors → Ok label ≡ label_in 0 (four_sectors image base)
    → label.metadata.items ≡ area ∷ others → area_at image base (512 * sectors) area ≡ volume_at image base sectors
label_there image base sectors label area others room read items =
    let test : nat_lt sectors 4 ≡ false = grind (arith, nat_tests) in
    rw (test, ← read, items) refl

-- where a place has no room for a label, it doesn't matter where that would stand
pub volume_base : (image : Contents) (base base' sectors : ℕ) → (4 ≤ sectors → base ≡ base')
    → volume_at image base sectors ≡ volume_at image base' sectors
volume_base image base base' sectors same =
    elim (cases_lt sectors 4) [
      | inl short ↦ let test : nat_lt sectors 4 ≡ true = grind (arith, nat_tests) in rw test refl
      | inr long ↦ ap (λ b. volume_at image b sectors) (same long)
    ]
