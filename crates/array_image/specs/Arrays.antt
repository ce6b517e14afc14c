-- The arrays of a pool as its slices' contents say them: their members, how far each counts, and each sector's value.
use Rattle.std.specs.Prelude.{ℕ, ◌+◌, ◌-◌, Bool, false, ◌==◌, ◌&&◌, not, nat_lt, if◌then◌else◌, List, [], map, take, position, Option, None, is_some, option_map, unwrap_or}
use Rattle.std.specs.Option.{option_map_or}
use Rattle.std.specs.List.{range_with_len}
use Rattle.rack.specs.Seen.{Image, read_in}
use Rattle.md_super.specs.declared.superblock.Super.{Super}
use Rattle.md_super.specs.Profile.{is_mirror}
use Rattle.pool_state.specs.declared.contents.State.{State}
use Rattle.array_image.specs.Places.{member_slice, data_sector}
use Rattle.array_image.specs.Stripes.{Layout, mirror, parity, width, capacity, position_in, sector_in, Stripe, given}
use Rattle.rack.specs.Targets.{put}
use Rattle.array_image.specs.Record.{pending}
use Rattle.array_image.specs.States.{state_in, is_current, current_places}
use Rattle.array_image.specs.Supers.{is_rebuilding, is_reshaping, super_in, truth_in}

-- ---- one array

-- a member's place, how many sectors of its data count, none of one that is missing, whether it is there, on a place that is current and with its
-- superblock, and whether it is neither missing nor rebuilding
pub record Member : Type 0 where
  pub place : ℕ
  pub reach : ℕ
  pub is_there : Bool
  pub is_whole : Bool

-- what the values of an array's sectors go by
pub record Shape : Type 0 where
  -- by position
  pub members : List Member
  -- the sectors of a member's data
  pub size : ℕ
  -- the layout of the rows that a reshape has moved, and that of all others
  pub moved : Layout
  pub layout : Layout
  -- the sectors of the array that it has moved
  pub reached : ℕ

-- how far a member counts by its own superblock
abbrev pub reach_of : ℕ → Super → ℕ
reach_of size own = if is_rebuilding own then own.recovery_offset else size

-- a place's member by its own superblock, in an array of this size; without one it is missing
abbrev pub member_by : ℕ → ℕ → Bool → Option Super → Member
member_by size place current own = record {
  place = place;
  reach = if current then option_map_or (reach_of size) own 0 else 0;
  is_there = current && is_some own;
  is_whole = current && option_map_or (λ t. not (is_rebuilding t)) own false;
}

-- the place that roles give to a position
abbrev pub place_with : List ℕ → ℕ → Option ℕ
place_with roles n = position (λ role. role == n) roles

abbrev pub member_in : State → Image → ℕ → Super → ℕ → Member
member_in s c array truth n =
    let place = unwrap_or (place_with truth.roles.items n) 16 in
    member_by truth.size place (is_current s place) (super_in s c array place)

abbrev pub final_layout : Super → Layout
final_layout t = if is_mirror t then mirror t.raid_disks else parity t.raid_disks

abbrev pub first_layout : Super → Layout
first_layout t = if is_reshaping t then parity (t.raid_disks - 1) else final_layout t

unfoldable pub shape_by : State → Image → ℕ → Super → Shape
shape_by s c array t = record {
  members = map (member_in s c array t) (range_with_len 0 t.raid_disks);
  size = t.size;
  moved = final_layout t;
  layout = first_layout t;
  reached = if is_reshaping t then t.reshape_position else 0;
}

-- the shape of an array, where it has a truth
abbrev pub shape_in : State → Image → ℕ → Option Shape
shape_in s c array = option_map (shape_by s c array) (truth_in s c array)

-- ---- values (docs/FORMATS.md, 'Addresses in an array')

-- a member's sector, where it counts
abbrev pub column : Image → ℕ → ℕ → Member → Option (List ℕ)
column c array sector m =
    if nat_lt sector m.reach then read_in c (member_slice m.place array) (data_sector + sector) else None

-- the layout that holds a sector of the array
abbrev pub layout_at : Shape → ℕ → Layout
layout_at shape x = if nat_lt x shape.reached then shape.moved else shape.layout

-- the members' sectors at one sector of their data
abbrev pub stripe_in : Image → ℕ → Shape → Layout → ℕ → Stripe
stripe_in c array shape layout sector = map (column c array sector) (take (width layout) shape.members)

-- the value of a sector of the array, by its shape
unfoldable pub value_by : Shape → Image → ℕ → ℕ → List ℕ
value_by shape c array x =
    let layout = layout_at shape x in
    given layout (stripe_in c array shape layout (sector_in layout x)) (position_in layout x)

-- how many sectors it has
abbrev pub sectors_by : Shape → ℕ
sectors_by shape = capacity shape.layout shape.size

-- the value of a sector of an array, where it has a truth
abbrev pub array_in : State → Image → ℕ → ℕ → List ℕ
array_in s c array x = option_map_or (λ shape. value_by shape c array x) (shape_in s c array) []

-- ---- all arrays

-- the slices once the pending record is replayed, on slices of so many sectors
unfoldable pub replayed : (ℕ → ℕ) → Image → Image
replayed sectors c = put sectors (pending (option_map_or current_places (state_in c) []) c) c

-- the arrays' contents that slices hold
unfoldable pub arrays_in : Image → Image
arrays_in c = λ array x. option_map_or (λ s. array_in s c array x) (state_in c) []
