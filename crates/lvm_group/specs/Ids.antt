-- The names and ids of a pool's volume group.
use Rattle.std.specs.Prelude.{ℕ, List, ◌++◌, take, drop, codes, decimal, Option, bytes_eq}
use Rattle.std.specs.List.{find, range_with_len}
use Rattle.hex.specs.Hex.{encode_lower}
use Rattle.shr_base.specs.Ids.{name_based, child_name}

-- ---- ids, made from the pool's

abbrev pub group_id : List ℕ → List ℕ
group_id pool = name_based pool (child_name 5 0 0)

abbrev pub pv_id : List ℕ → ℕ → List ℕ
pv_id pool array = name_based pool (child_name 6 array 0)

abbrev pub lv_id : List ℕ → List ℕ
lv_id pool = name_based pool (child_name 7 0 0)

-- 32 digits, as a label has an id
abbrev pub label_id : List ℕ → List ℕ
label_id id = encode_lower id

-- the digits from a place on, so many
abbrev pub part : ℕ → ℕ → List ℕ → List ℕ
part at count digits = take count (drop at digits)

-- in groups of 6, 4, 4, 4, 4, 4 and 6 digits parted by `-`
unfoldable pub parted : List ℕ → List ℕ
parted digits =
    part 0 6 digits ++ codes "-" ++ part 6 4 digits ++ codes "-" ++ part 10 4 digits ++ codes "-" ++ part 14 4 digits
    ++ codes "-" ++ part 18 4 digits ++ codes "-" ++ part 22 4 digits ++ codes "-" ++ part 26 6 digits

-- as a text has it
abbrev pub text_id : List ℕ → List ℕ
text_id id = parted (encode_lower id)

-- ---- names

abbrev pub group_name : List ℕ
group_name = codes "vg1000"

abbrev pub lv_name : List ℕ
lv_name = codes "lv"

-- the physical volume of an array
abbrev pub pv_name : ℕ → List ℕ
pv_name array = codes "pv" ++ decimal array

-- at most so many arrays
abbrev pub most_arrays : ℕ
most_arrays = 16

-- the array whose physical volume has this name
abbrev pub array_named : List ℕ → Option ℕ
array_named name = find (λ array. bytes_eq (pv_name array) name) (range_with_len 0 most_arrays)
