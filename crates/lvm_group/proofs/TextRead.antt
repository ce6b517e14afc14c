-- A text that was read in two rows, before the end of its area and behind the header.
use Rattle.std.proofs.Common.{◌≡◌, ℕ, ◌+◌, ◌-◌, List, [], Option, Some, None, refl, sym, ap, ◌∙◌}
use Rattle.std.specs.Prelude.{nat_lt, if◌then◌else◌}
use Rattle.std.specs.Option.{option_and_then}
use Rattle.rack.specs.Seen.{RackView}
use Rattle.lvm_label.specs.declared.label.Area.{Area}
use Rattle.lvm_label.specs.declared.header.Location.{Location}
use Rattle.lvm_group.specs.Parts.{Array, row_at, behind, before_end, text_at}
use Rattle.rack.specs.Sequences.{OnlyReads}
use Rattle.lvm_group.specs.Reading.{held_on}
use Rattle.lvm_group.proofs.Rows.{behind_none}

-- the contents are the same after calls that bring no value
pub same_held : {a b : RackView} (array : ℕ) (now : Array) → OnlyReads a b → held_on b array now ≡ held_on a array now
same_held array now looks = λ i sector. if nat_lt sector (looks.stays.sectors array i) then now sector else []

pub text_given : (c : Array) (area : Area) (location : Location) (from front again : ℕ) (first whole : List ℕ)
    → from ≡ area.offset + location.offset → front ≡ before_end area location → again ≡ area.offset + 512
    → behind [] (row_at c from front) ≡ Some first → behind first (row_at c again (location.size - front)) ≡ Some whole → text_at c area location ≡ Some whole
unfolding text_at
text_given c area location from front again first whole from_is front_is again_is one two =
    let row : row_at c (area.offset + location.offset) (before_end area location) ≡ Some first =
    (λ i. row_at c (sym from_is i) (sym front_is i)) ∙ sym (behind_none (row_at c from front)) ∙ one in
    ap (option_and_then (λ (bytes : List ℕ). behind bytes (row_at c (area.offset + 512) (location.size - before_end area location)))) row
    ∙ (λ i. behind first (row_at c (sym again_is i) (location.size - sym front_is i))) ∙ two

-- a text that lacks its first row isn't there
pub first_lacks : (c : Array) (area : Area) (location : Location) (from front : ℕ) → from ≡ area.offset + location.offset → front ≡ before_end area location
    → row_at c from front ≡ None → text_at c area location ≡ None
unfolding text_at
first_lacks c area location from front from_is front_is none =
    ap (option_and_then (λ (bytes : List ℕ). behind bytes (row_at c (area.offset + 512) (location.size - before_end area location))))
    ((λ i. row_at c (sym from_is i) (sym front_is i)) ∙ none)

-- nor one that lacks its second
either_row : (o : Option (List ℕ)) → option_and_then (λ (bytes : List ℕ). behind bytes None) o ≡ None
either_row None = refl
either_row (Some bytes) = refl

pub second_lacks : (c : Array) (area : Area) (location : Location) (front again : ℕ) → front ≡ before_end area location → again ≡ area.offset + 512
    → row_at c again (location.size - front) ≡ None → text_at c area location ≡ None
unfolding text_at
second_lacks c area location front again front_is again_is none =
    (λ i. option_and_then (λ (bytes : List ℕ). behind bytes (((λ j. row_at c (sym again_is j) (location.size - sym front_is j)) ∙ none) i))
    (row_at c (area.offset + location.offset) (before_end area location)))
    ∙ either_row (row_at c (area.offset + location.offset) (before_end area location))
