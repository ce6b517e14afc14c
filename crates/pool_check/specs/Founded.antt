-- Arrays of the valid superblocks that were read of their members, whatever the disks tell.
use Rattle.std.specs.Prelude.{◌≡◌, ℕ, ◌<◌, ◌==◌, ◌&&◌, Bool, true, false, not, nat_lt, is_some, List, [], map, length, slice_get, Option, Some, None, Ok}
use Rattle.std.specs.List.{list_any, range_with_len}
use Rattle.std.specs.Option.{option_map_or}
use Rattle.rack.specs.Seen.{Image}
use Rattle.md_super.specs.declared.superblock.Super.{Super}
use Rattle.pool_state.specs.declared.contents.State.{State}
use Rattle.array_image.specs.States.{is_current}
use Rattle.array_image.specs.Supers.{is_named, is_super_of, only_if, super_in, super_of, truth_in}
use Rattle.array_model.specs.View.{View}
use Rattle.array_core.specs.declared.Found.{Found}
use Rattle.array_core.specs.Contents.{current_super}
use Rattle.array_core.specs.Model.{is_truth}
use Rattle.array_core.specs.Opening.{opened, super_at, truth_of, view_found}
use Rattle.pool_image.specs.Disks.{Seats}

-- ---- what is read of one place

-- the valid superblock of a place's member in a block
abbrev pub super_by : State → ℕ → ℕ → List ℕ → Option Super
super_by s array place block = only_if (is_super_of s.pool.0 s.extent (length s.drives.items) array place) (super_of block)

-- the superblock of a place is the valid one in some block, which a place without a disk doesn't have
pub record IsReadAt (s : State) (seats : Seats) (array place : ℕ) (seen : Option Super) : Type 0 where
  pub block : List ℕ
  pub valid : seen ≡ super_by s array place block
  pub unseated : seats place ≡ None → block ≡ []

-- ---- what is read of all places

-- the superblock of each place, by contents of its slices
abbrev pub found_in : State → Image → ℕ → ℕ → Found
found_in s c array place = record { place = place; seen = super_in s c array place }

abbrev pub all_in : State → Image → ℕ → ℕ → List Found
all_in s c array many = map (found_in s c array) (range_with_len 0 many)

-- What was found on the first so many places is what some contents of their slices have, and a place without a disk has none.
pub record HasContents (s : State) (seats : Seats) (array many : ℕ) (found : List Found) : Type 0 where
  pub image : Image
  pub are : found ≡ all_in s image array many
  pub unseated : (place : ℕ) → seats place ≡ None → super_in s image array place ≡ None

-- ---- stale superblocks

-- the superblock of a place is stale: its events aren't those of the truth that names the place
abbrev pub is_stale_on : Super → (ℕ → Option Super) → ℕ → Bool
is_stale_on truth seen place = is_named truth place && option_map_or (λ t. not (t.events == truth.events)) (seen place) false

-- the superblock of a member is
unfoldable pub is_stale : Super → (ℕ → Option Super) → Bool
is_stale truth seen = list_any (is_stale_on truth seen) (range_with_len 0 16)

-- ---- arrays

-- An array of the valid superblocks of its members: by some contents of its slices, each member with a disk has one, and no other.
pub record IsFounded (s : State) (seats : Seats) (n : ℕ) (v : View) : Type 0 where
  pub image : Image
  pub truth : Super
  pub found : List Found
  pub truth_is : truth_in s image n ≡ Some truth
  pub leads : truth_of found ≡ Some truth
  pub named : (place : ℕ) → is_named truth place ≡ true → super_at found place ≡ current_super s image n place
  pub usable : is_truth truth ≡ true
  pub some : 0 < truth.size
  pub view : v ≡ view_found n (not (nat_lt n s.joined)) found truth
  pub opened : opened n (not (nat_lt n s.joined)) found ≡ Ok v
  pub there :
      (place : ℕ) → is_named truth place ≡ true → is_current s place ≡ true
      → is_some (super_in s image n place) ≡ is_some (seats place)

-- All arrays of a pool are, by number, with a flag each that says whether a member's superblock is stale.
pub record AreFounded (s : State) (seats : Seats) (arrays : List View) (stale : List Bool) : Type 0 where
  pub count : length arrays ≡ s.made
  pub each : (n : ℕ) (v : View) → slice_get arrays n ≡ Some v → IsFounded s seats n v
  pub flags :
      (n : ℕ) (v : View) (at : slice_get arrays n ≡ Some v)
      → slice_get stale n ≡ Some (is_stale (each n v at).truth (super_at (each n v at).found))
