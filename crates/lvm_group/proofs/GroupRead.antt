-- The group at a location, by its text.
use Rattle.std.proofs.Common.{◌≡◌, ℕ, ◌-◌, ◌≤◌, Bool, true, false, List, Option, Some, None, refl, ap, ◌∙◌}
use Rattle.std.specs.Prelude.{◌==◌, if◌then◌else◌, nat_le, nat_lt}
use Rattle.std.specs.Option.{option_and_then}
use Rattle.std.specs.Result.{result_ok}
use Rattle.std.proofs.lemmas.Bool.{leb-true}
use Rattle.shr_base.specs.Crc.{lvm_crc_of}
use Rattle.lvm_label.specs.declared.label.Area.{Area}
use Rattle.lvm_label.specs.declared.header.Location.{Location}
use Rattle.lvm_text.specs.Group.{group_of}
use Rattle.lvm_group.specs.Parts.{Array, text_at, is_inside, group_by, group_at, most_text}
use Rattle.lvm_group.proofs.Passed.{both}

-- a location outside has no group
pub not_inside : (c : Array) (area : Area) (location : Location) → is_inside area location ≡ false → group_at c area location ≡ None
unfolding group_at
not_inside c area location outside = ap (λ test. if test then option_and_then (group_by location) (text_at c area location) else None) outside

-- nor one without a text
one_way : {X : Type 0} (test : Bool) (x : Option X) → x ≡ None → (if test then x else None) ≡ None
one_way true x none = none
one_way false x none = refl

pub no_text : (c : Array) (area : Area) (location : Location) → text_at c area location ≡ None → group_at c area location ≡ None
unfolding group_at
no_text c area location none =
    one_way (is_inside area location) (option_and_then (group_by location) (text_at c area location)) (ap (option_and_then (group_by location)) none)

-- nor one with another sum
pub other_sum : (c : Array) (area : Area) (location : Location) (text : List ℕ) → text_at c area location ≡ Some text → (location.crc == lvm_crc_of text) ≡ false
    → group_at c area location ≡ None
unfolding group_at
other_sum c area location text is sum =
    one_way (is_inside area location) (option_and_then (group_by location) (text_at c area location))
    (ap (option_and_then (group_by location)) is ∙ ap (λ test. if test then result_ok (group_of text) else None) sum)

-- else it has the group that its text says
pub group_said : (c : Array) (area : Area) (location : Location) (text : List ℕ) → is_inside area location ≡ true → text_at c area location ≡ Some text
    → (location.crc == lvm_crc_of text) ≡ true → group_at c area location ≡ result_ok (group_of text)
unfolding group_at
group_said c area location text inside is sum =
    ap (λ test. if test then option_and_then (group_by location) (text_at c area location) else None) inside
    ∙ ap (option_and_then (group_by location)) is ∙ ap (λ test. if test then result_ok (group_of text) else None) sum

-- one inside has a text that isn't too long
pub inside_short : (area : Area) (location : Location) → is_inside area location ≡ true → location.size ≤ 262144
inside_short area location inside =
    let first = both (nat_le 512 location.offset) _ inside in
    let second = both (nat_lt location.offset area.size) _ first.1 in
    leb-true location.size most_text (both (nat_le location.size (area.size - 512)) (nat_le location.size most_text) second.1).1
