-- A new array of a growth: which places are its members, where their slices lie, and the array that its superblocks make.
use Rattle.std.specs.Prelude.{ℕ, ◌+◌, ◌-◌, ◌*◌, ◌/◌, ◌^◌, Bool, true, ◌==◌, ◌&&◌, nat_le, nat_lt, if◌then◌else◌, List, [], filter, length, map, slice_get, sum_by, Some, None, unwrap_or, false}
use Rattle.std.specs.Option.{option_map_or}
use Rattle.std.specs.List.{range_with_len}
use Rattle.shr_base.specs.declared.Id.{Id}
use Rattle.md_super.specs.declared.superblock.Super.{Super}
use Rattle.pool_state.specs.declared.contents.State.{State}
use Rattle.array_image.specs.States.{is_current}
use Rattle.array_model.specs.View.{View}
use Rattle.array_core.specs.declared.Found.{Found}
use Rattle.array_core.specs.Opening.{truth_of, view_found}
use Rattle.new_array.specs.Supers.{new_super}
use Rattle.raid_laws.specs.NewDrive.{first_in}
use Rattle.raid_laws.specs.Raid.{Raid}

-- the arrays below `made`, by number
abbrev pub views_of : Raid → List View
views_of v = map v.arrays (range_with_len 0 v.state.made)

-- the id of a drive of the list
abbrev pub drive_id : State → ℕ → Id
drive_id s place = option_map_or (λ drive. drive.id) (slice_get s.drives.items place) (record { 0 = [] })

-- ---- its members

-- the height of an array's layer, and where the layers of all arrays end, in extents
abbrev pub height_of : ℕ → View → ℕ
height_of extent u = (u.truth.size - 2048) / extent

abbrev pub top_of : Raid → ℕ
top_of v = sum_by (height_of v.state.extent) (views_of v)

-- the drive of a place is as large as so many extents, whether it is missing or not
abbrev pub reaches : State → (extents place : ℕ) → Bool
reaches s extents place = option_map_or (λ drive. nat_le extents drive.units) (slice_get s.drives.items place) false

-- the places that reach a layer of so many extents above all arrays, in their order
abbrev pub reaching : Raid → ℕ → List ℕ
reaching v height = filter (reaches v.state (top_of v + height)) (range_with_len 0 (length v.state.drives.items))

-- the sectors of their members' data
abbrev pub new_size : Raid → ℕ → ℕ
new_size v height = height * v.state.extent + 2048

-- An array of this number may be made of them: no other one is young, and its slices end on a drive below 2^48 sectors, with the backup of its table.
abbrev pub may_make : Raid → (n height : ℕ) → Bool
may_make v n height =
    ((n == v.state.made) && ((v.state.joined == v.state.made) && nat_lt v.state.made 16))
    && ((nat_lt 0 height && nat_le 2 (length (reaching v height)))
    && nat_le (first_in (views_of v) v.state.made + new_size v height + 2048 + 33) (2 ^ 48))

-- ---- the array

-- the superblock of a place's member, among members of so many sectors of data; it leaves all rows to zero
abbrev pub super_for : State → (members : List ℕ) → (size seconds place : ℕ) → Super
super_for s members size seconds place = new_super s.pool (drive_id s place) members s.made place size 0 seconds

-- what is found on it, unless it is missing
abbrev pub found_on : State → (members : List ℕ) → (size seconds place : ℕ) → Found
found_on s members size seconds place = record { place = place; seen = if is_current s place then Some (super_for s members size seconds place) else None }

-- on all of them
abbrev pub found_for : State → (members : List ℕ) → (size seconds : ℕ) → List Found
found_for s members size seconds = map (found_on s members size seconds) members

-- the young array that they make
abbrev pub view_for : State → (members : List ℕ) → (size seconds : ℕ) → View
view_for s members size seconds =
    view_found s.made true (found_for s members size seconds) (unwrap_or (truth_of (found_for s members size seconds)) (super_for s members size seconds 0))

abbrev pub new_view : (seconds : ℕ) → Raid → ℕ → View
new_view seconds v height = view_for v.state (reaching v height) (new_size v height) seconds
