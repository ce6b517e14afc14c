-- The superblocks of an array: which of them is valid for its place, and the one that says how the array stands.
use Rattle.std.specs.Prelude.{ℕ, ◌-◌, ◌*◌, ◌%◌, ◌^◌, Bool, false, ◌==◌, ◌&&◌, ◌||◌, not, nat_lt, bit_and, bytes_eq, if◌then◌else◌, is_ok, List, ◌++◌, map, length, filter, count_by, replicate, slice_get, Option, Some, None}
use Rattle.std.specs.Option.{option_and_then, option_map_or}
use Rattle.std.specs.Result.{result_ok}
use Rattle.std.specs.List.{list_all, range_with_len}
use Rattle.rack.specs.Seen.{Image}
use Rattle.md_super.specs.declared.superblock.Super.{Super}
use Rattle.md_super.specs.Layout.{decoded}
use Rattle.md_super.specs.Profile.{is_raid5, profiled}
use Rattle.pool_state.specs.declared.contents.State.{State}
use Rattle.array_image.specs.Foremost.{foremost}
use Rattle.array_image.specs.Places.{member_slice, super_sector, array_id}
use Rattle.array_image.specs.States.{current_places}

-- ---- fields (Linux md, MD_FEATURE_RECOVERY_OFFSET and MD_FEATURE_RESHAPE_ACTIVE)

-- its member is being rebuilt, up to `recovery_offset`
abbrev pub is_rebuilding : Super → Bool
is_rebuilding t = bit_and t.feature_map 2 == 2

-- its array is being reshaped, up to `reshape_position`
abbrev pub is_reshaping : Super → Bool
is_reshaping t = bit_and t.feature_map 4 == 4

-- rows are left to resync, or in a young array to zero
abbrev pub is_unclean : Super → Bool
is_unclean t = nat_lt t.resync_offset t.size

-- the sectors of the array in a row of the geometry that a reshape leads to
abbrev pub new_row : Super → ℕ
new_row t = 128 * (t.raid_disks - 1)

-- whether a place has this role
abbrev pub has_role : Super → ℕ → ℕ → Bool
has_role t role place = option_map_or (λ r. r == role) (slice_get t.roles.items place) false

-- whether the roles give a place a position
abbrev pub is_named : Super → ℕ → Bool
is_named t place = option_map_or (λ role. nat_lt role 0xfffe) (slice_get t.roles.items place) false

-- the places that they give one
abbrev pub named_places : Super → List ℕ
named_places t = filter (is_named t) (range_with_len 0 (length t.roles.items))

-- ---- valid superblocks (docs/FORMATS.md, 'Superblock of an array')

-- as many places as members, all of the list, and each position once
abbrev pub has_roles : ℕ → Super → Bool
has_roles drives t =
    (length (named_places t) == t.raid_disks)
    && (list_all (λ place. nat_lt place drives) (named_places t)
    && list_all (λ n. count_by (has_role t n) (named_places t) == 1) (range_with_len 0 t.raid_disks))

-- a reshape is one of RAID-5 to three members or more, and stands between two rows
abbrev pub has_whole_row : Super → Bool
has_whole_row t = not (is_reshaping t) || (is_raid5 t && (nat_lt 2 t.raid_disks && (t.reshape_position % new_row t == 0)))

-- the superblock of a place's member of an array, in a pool of this id, extent and number of drives
abbrev pub is_super_of : List ℕ → ℕ → ℕ → ℕ → ℕ → Super → Bool
is_super_of pool extent drives array place t =
    is_ok (profiled t extent)
    && (bytes_eq t.set_id.0 (array_id pool array)
    && ((t.dev_number == place)
    && (nat_lt 0 t.events && (nat_lt t.events (2 ^ 63) && (has_whole_row t && has_roles drives t)))))

-- a value, if it passes
abbrev pub only_if : {X : Type 0} → (X → Bool) → Option X → Option X
only_if passes o = option_and_then (λ x. if passes x then Some x else None) o

-- the superblock in a sector, with zeros in the place of the next one: one of 128 roles ends with its first sector
abbrev pub super_of : List ℕ → Option Super
super_of block = result_ok (decoded (block ++ replicate 512 0))

-- the valid superblock of a place's member
abbrev pub super_in : State → Image → ℕ → ℕ → Option Super
super_in s c array place =
    only_if (is_super_of s.pool.0 s.extent (length s.drives.items) array place) (super_of (c (member_slice place array) super_sector))

-- ---- the truth

-- the valid superblock of most events on current places, of equal ones that of the lowest place
unfoldable pub truth_in : State → Image → ℕ → Option Super
truth_in s c array = foremost (λ t. t.events) (map (super_in s c array) (current_places s))
