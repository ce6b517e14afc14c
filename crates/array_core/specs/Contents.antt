-- What is found of the superblocks that contents of slices have.
use Rattle.std.specs.Prelude.{◌≡◌, ℕ, ◌+◌, ◌<◌, ◌≤◌, true, false, not, count_by, if◌then◌else◌, List, length, slice_get, Option, Some, None}
use Rattle.rack.specs.Values.{IsSingle}
use Rattle.rack.specs.Seen.{Image, RackView, IsLive}
use Rattle.pool_state.specs.declared.contents.State.{State}
use Rattle.md_super.specs.declared.superblock.Super.{Super}
use Rattle.array_image.specs.States.{is_current}
use Rattle.array_image.specs.Supers.{is_named, super_in, truth_in}
use Rattle.array_image.specs.Places.{member_slice, super_sector, data_sector}
use Rattle.array_image.specs.SoundArray.{IsSoundArray}
use Rattle.array_image.specs.Arrays.{Member, Shape, shape_by}
use Rattle.array_image.specs.Held.{Among}
use Rattle.array_image.specs.Left.{reading, NothingPending}
use Rattle.array_model.specs.Says.{HasNoOthers, IsOpen}
use Rattle.array_core.specs.declared.Found.{Found}
use Rattle.array_core.specs.Opening.{super_at, view_found}

-- the valid superblock on a place of an array, where the place is current
abbrev pub current_super : State → Image → ℕ → ℕ → Option Super
current_super s c number place = if is_current s place then super_in s c number place else None

-- What was found is what contents have on the places that the truth names, and its own place is one of these.
pub record AreFound (s : State) (c : Image) (number : ℕ) (t : Super) (found : List Found) : Type 0 where
  pub few : length s.drives.items ≤ 16
  pub truth : truth_in s c number ≡ Some t
  pub own : is_named t t.dev_number ≡ true
  pub named : (place : ℕ) → is_named t place ≡ true → super_at found place ≡ current_super s c number place
  pub others : (place : ℕ) → is_named t place ≡ false → super_at found place ≡ None
  -- each place is listed once
  pub once : (k : ℕ) (f : Found) → slice_get found k ≡ Some f → super_at found f.place ≡ f.seen

-- how many members of a shape are missing or rebuilding
abbrev pub lacking_in : Shape → ℕ
lacking_in shape = count_by (λ m. not m.is_whole) shape.members

-- Slices that an array of these superblocks is opened on, where it isn't young: one value a sector, and nothing pending; by their
-- contents the array's superblocks and rows agree, and no other place has one; each superblock and each sector of a member's data
-- that counts is told.
pub record AreSlicesOf (s : State) (number : ℕ) (t : Super) (found : List Found) (x : RackView) : Type 0 where
  pub found_is : AreFound s (reading x) number t found
  pub joined : number < s.joined
  pub sound : IsSoundArray s (reading x) number t
  pub alone : HasNoOthers (view_found number false found t) s (reading x)
  pub closed : NothingPending number x
  pub single : (place i : ℕ) → IsLive x x (member_slice place number) i → IsSingle (x.held (member_slice place number) i)
  pub open_slices : IsOpen (shape_by s (reading x) number t) number x
  pub supers : (place : ℕ) → place < 16 → super_sector < x.sectors (member_slice place number) → IsLive x x (member_slice place number) super_sector
  pub sized :
      (m : Member) (i : ℕ) → Among m (shape_by s (reading x) number t).members → i < m.reach
      → length (x.held (member_slice m.place number) (data_sector + i)).current ≡ 512
