-- What the superblocks of an array say, as they are read on the drives.
use Rattle.std.specs.Prelude.{◌≡◌, ℕ, suc, ◌+◌, ◌<◌, ◌≤◌, ◌^◌, Bool, true, false, ◌&&◌, ◌||◌, not, nat_lt, nat_le, bytes_eq, is_some, if◌then◌else◌, List, [], ◌∷◌, ◌++◌, map, length, slice_get, Option, Some, None, Result, Ok, Err}
use Rattle.std.specs.Option.{option_and_then, option_map_or}
use Rattle.std.specs.List.{range_with_len, list_all}
use Rattle.gpt_table.specs.Disk.{Contents}
use Rattle.md_super.specs.declared.superblock.Super.{Super}
use Rattle.array_image.specs.States.{id_of}
use Rattle.pool_state.specs.declared.contents.State.{State}
use Rattle.array_image.specs.Places.{log_kind, log_sectors, raid_kind, state_sector}
use Rattle.gpt_table.specs.declared.Table.{Table}
use Rattle.array_image.specs.Supers.{is_named, is_unclean}
use Rattle.array_image.specs.Arrays.{shape_by}
use Rattle.array_model.specs.View.{View, shape_of}
use Rattle.array_core.specs.declared.Found.{Found as FoundSuper}
use Rattle.array_core.specs.declared.ArrayFault.{ArrayFault}
use Rattle.array_core.specs.declared.ArrayFault.TheVariants.{Foreign, TooFew, DirtyDegraded}
use Rattle.array_core.specs.Model.{is_truth}
use Rattle.array_core.specs.Opening.{opened, super_at as super_found, truth_of as found_truth, view_found}
use Rattle.pool_image.specs.Disks.{Seats}
use Rattle.pool_image.specs.Replay.{Extent as ImageExtent}
use Rattle.pool_image.specs.Drives.{Found, extent_of, first_of, slices_from, slices_of}
use Rattle.pool_image.specs.Meaning.{has_slice, is_member, lacking_of, super_at, truth_of}
use Rattle.pool_check.specs.declared.Extent.{Extent}
use Rattle.pool_check.specs.declared.Sight.{Sight}
use Rattle.pool_check.specs.declared.Sight.TheVariants.{Stranger, Valid, Invalid}
use Rattle.pool_check.specs.declared.Layer.{Layer}
use Rattle.pool_check.specs.declared.ArraysRead.{ArraysRead}
use Rattle.pool_check.specs.declared.Checked.{Checked}
use Rattle.pool_check.specs.Founded.{HasContents, all_in, found_in, is_stale, super_by}

-- ---- superblocks

-- a sector of a disk's contents: none past its end
abbrev pub sector_on : ℕ → Contents → ℕ → List ℕ
sector_on sectors contents sector = if nat_lt sector sectors then contents sector else []

-- the valid superblock in a sector of a place's disk
abbrev pub super_on : State → ℕ → ℕ → ℕ → ℕ → Contents → Option Super
super_on s array place sectors sector contents = super_by s array place (sector_on sectors contents sector)

-- a superblock of a member's size is one that an array can go by
abbrev pub is_usable : Super → Bool
is_usable t = nat_le (2 ^ 48) t.size || is_truth t

-- the superblock of each place, where the slices of an array begin there
abbrev pub found_on : Found → ℕ → ℕ → ℕ → FoundSuper
found_on f array first place = found_in f.state (slices_from f first) array place

abbrev pub all_found : Found → ℕ → ℕ → List FoundSuper
all_found f array first = all_in f.state (slices_from f first) array 16

-- ---- layers

-- where the slices of an array begin: none is past every disk, or not known
abbrev pub IsNext : Found → ℕ → Option ℕ → Type 0
IsNext f array None = (first : ℕ) → first_of f array ≡ Some first → 2 ^ 48 ≤ first
IsNext f array (Some first) = (first_of f array ≡ Some first) × (first < 2 ^ 48)

-- an extent of the meaning of images
abbrev pub extent_by : Extent → ImageExtent
extent_by e = record { first = e.first; sectors = e.sectors }

-- an extent, or none, where it is longer than every disk
abbrev pub IsExtent : Option ImageExtent → Option Extent → Type 0
IsExtent said (Some e) = said ≡ Some (extent_by e)
IsExtent said None = (e : ImageExtent) → said ≡ Some e → 2 ^ 48 ≤ e.sectors

-- what a place has to do with an array
abbrev pub sight_by : Bool → Bool → Sight
sight_by member valid = if member then (if valid then Valid else Invalid) else Stranger

abbrev pub sight_of : Found → ℕ → ℕ → Sight
sight_of f array place = sight_by (is_member f array place) (is_some (super_at f array place))

-- what it has to do with the array of a truth, by what was found on the places
abbrev pub sights_by : Super → List FoundSuper → ℕ → Sight
sights_by t found place = sight_by (is_named t place) (is_some (option_and_then (λ f. f.seen) (slice_get found place)))

-- why the array of a truth can't be opened
abbrev pub fault_by : Found → ℕ → Super → Option ArrayFault
fault_by f array t =
    if nat_le (2 ^ 48) t.size || nat_lt 1 (lacking_of (shape_by f.state (slices_of f) array t)) then Some TooFew
    else if nat_lt 0 (lacking_of (shape_by f.state (slices_of f) array t)) && (nat_lt array f.state.joined && is_unclean t) then Some DirtyDegraded
    else None

abbrev pub fault_of : Found → ℕ → Option ArrayFault
fault_of f array = option_map_or (fault_by f array) (truth_of f array) (Some Foreign)

-- what the superblocks of an array say
pub record IsLayer (f : Found) (array : ℕ) (layer : Layer) : Type 0 where
  pub number : layer.number ≡ array
  pub extent : IsExtent (extent_of f (suc array)) layer.extent
  pub sights : layer.sights.items ≡ map (sight_of f array) (range_with_len 0 16)
  pub fault : layer.fault ≡ fault_of f array

-- what the superblocks of all arrays say
pub record AreRead (f : Found) (layers : List Layer) : Type 0 where
  pub count : length layers ≡ f.state.made
  pub each : (n : ℕ) (layer : Layer) → slice_get layers n ≡ Some layer → IsLayer f n layer

-- a place is a member of an array
abbrev pub is_member_sight : Sight → Bool
is_member_sight Stranger = false
is_member_sight Valid = true
is_member_sight Invalid = true

abbrev pub is_member_of : Layer → ℕ → Bool
is_member_of layer place = option_map_or is_member_sight (slice_get layer.sights.items place) false

-- it has a valid superblock, or is no member
abbrev pub is_sound_sight : Sight → Bool
is_sound_sight Stranger = true
is_sound_sight Valid = true
is_sound_sight Invalid = false

abbrev pub is_sound_on : ℕ → Layer → Bool
is_sound_on place layer = option_map_or is_sound_sight (slice_get layer.sights.items place) true

-- the slice of an array stands in a table of a disk of so many sectors, or the place is no member
abbrev pub has_layer : ℕ → Table → ℕ → Layer → Bool
has_layer sectors table place layer =
    not (is_member_of layer place)
    || option_map_or (λ e. has_slice sectors table (layer.number + 2) raid_kind (extent_by e)) layer.extent false

-- where the log slice lies on each drive
abbrev pub log_extent : ImageExtent
log_extent = record { first = state_sector; sectors = log_sectors }

-- a table is that of a place's drive, by what was read of the arrays
abbrev pub is_table_by : State → List Layer → ℕ → ℕ → Table → Bool
is_table_by s layers place sectors table =
    option_map_or (bytes_eq table.disk_id.0) (id_of s place) false
    && (has_slice sectors table 1 log_kind log_extent && list_all (has_layer sectors table place) layers)

-- ---- opened arrays

-- the array of these superblocks: that of its truth, by what each place has
pub record IsOpened (f : Found) (array : ℕ) (v : View) : Type 0 where
  pub truth : Super
  pub found : List FoundSuper
  pub truth_is : truth_of f array ≡ Some truth
  pub are_found : (place : ℕ) → super_found found place ≡ super_at f array place
  pub once : (k : ℕ) (s : FoundSuper) → slice_get found k ≡ Some s → super_found found s.place ≡ s.seen
  pub view : v ≡ view_found array (not (nat_lt array f.state.joined)) found truth
  pub shape : shape_of v ≡ shape_by f.state (slices_of f) array truth

-- a flag of an array says whether a member's superblock is stale
abbrev pub IsFlag : Found → ℕ → Bool → Type 0
IsFlag f array flag = (t : Super) → truth_of f array ≡ Some t → flag ≡ is_stale t (super_at f array)

-- The arrays below a number are open, their slices lie there, and these have stale superblocks.
pub record AreOpened (f : Found) (many : ℕ) (arrays : List View) (extents : List Extent) (stale : List Bool) : Type 0 where
  pub count : length arrays ≡ many
  pub lengths : length extents ≡ many
  pub each : (n : ℕ) (v : View) → slice_get arrays n ≡ Some v → IsOpened f n v
  pub lies : (n : ℕ) (e : Extent) → slice_get extents n ≡ Some e → extent_of f (suc n) ≡ Some (extent_by e)
  pub flagged : length stale ≡ many
  pub flags : (n : ℕ) (flag : Bool) → slice_get stale n ≡ Some flag → IsFlag f n flag

-- an array was kept with its extent and its flag, or wasn't opened
abbrev pub Opens : Checked → Checked → Extent → Bool → Result View ArrayFault → Option ArrayFault → Type 0
Opens a b e flag (Ok v) fault =
    (b.arrays.items ≡ a.arrays.items ++ v ∷ []) × (b.extents.items ≡ a.extents.items ++ e ∷ []) × (fault ≡ None)
    × (b.stale.items ≡ a.stale.items ++ flag ∷ [])
Opens a b e flag (Err why) fault =
    (b.arrays.items ≡ a.arrays.items) × (b.extents.items ≡ a.extents.items) × (fault ≡ Some why) × (b.stale.items ≡ a.stale.items)

-- the arrays below a number are read
pub record AreLayers (f : Found) (many : ℕ) (layers : ArraysRead) : Type 0 where
  pub count : length layers.all.items ≡ many
  pub each : (n : ℕ) (layer : Layer) → slice_get layers.all.items n ≡ Some layer → IsLayer f n layer
  pub opened : ((n : ℕ) → n < many → fault_of f n ≡ None) → AreOpened f many layers.opened.arrays.items layers.opened.extents.items layers.opened.stale.items
  pub next : IsNext f many layers.next

-- ---- arrays by what was read, whatever the disks tell

-- no array has a fault
abbrev pub HasNoFault : List Layer → Type 0
HasNoFault layers = (k : ℕ) (layer : Layer) → slice_get layers k ≡ Some layer → layer.fault ≡ None

-- an array is that of the superblocks that were found on its places, its layer says what each of these has, and its flag whether one is stale
pub record IsFoundedBy (s : State) (seats : Seats) (n : ℕ) (layers : List Layer) (v : View) (flag : Option Bool) : Type 0 where
  pub truth : Super
  pub found : List FoundSuper
  pub contents : HasContents s seats n 16 found
  pub truth_is : found_truth found ≡ Some truth
  pub usable : is_truth truth ≡ true
  pub opened : opened n (not (nat_lt n s.joined)) found ≡ Ok v
  pub layer : Layer
  pub at : slice_get layers n ≡ Some layer
  pub sights : layer.sights.items ≡ map (sights_by truth found) (range_with_len 0 16)
  pub flagged : flag ≡ Some (is_stale truth (super_found found))

-- the arrays below a number are all open, where none of them has a fault
pub record AreFoundedBy (s : State) (seats : Seats) (many : ℕ) (layers : ArraysRead) : Type 0 where
  pub count : HasNoFault layers.all.items → length layers.opened.arrays.items ≡ many
  pub each :
      HasNoFault layers.all.items
      → (n : ℕ) (v : View) → slice_get layers.opened.arrays.items n ≡ Some v
      → IsFoundedBy s seats n layers.all.items v (slice_get layers.opened.stale.items n)
