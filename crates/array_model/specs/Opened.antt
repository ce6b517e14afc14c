-- What an array is opened on.
use Rattle.std.specs.Prelude.{◌≡◌, ℕ, ◌+◌, ◌<◌, ◌≤◌, true, false, length, Some}
use Rattle.rack.specs.Values.{IsSingle}
use Rattle.rack.specs.Seen.{RackView, IsLive}
use Rattle.pool_state.specs.declared.contents.State.{State}
use Rattle.array_image.specs.Places.{member_slice, super_sector, data_sector}
use Rattle.array_image.specs.States.{is_current}
use Rattle.array_image.specs.Supers.{truth_in}
use Rattle.array_image.specs.SoundArray.{IsSoundArray, first_unsynced}
use Rattle.array_image.specs.Arrays.{Member, shape_in}
use Rattle.array_image.specs.Held.{Among}
use Rattle.array_image.specs.Left.{reading, NothingPending}
use Rattle.array_model.specs.View.{View, shape_of}
use Rattle.array_model.specs.Says.{IsOpen, HasNoOthers}

-- Slices of members with one value a sector, as attaching leaves them, whose contents say an array: its shape, its truth, superblocks that agree,
-- and rows that agree but for those that are left to resync. Nothing is pending in them.
pub record OpensOn (s : State) (v : View) (x : RackView) : Type 0 where
  pub few : (place : ℕ) → is_current s place ≡ true → place < 16
  pub joined : v.number < s.joined
  pub shape_is : shape_in s (reading x) v.number ≡ Some (shape_of v)
  pub truth_is : truth_in s (reading x) v.number ≡ Some v.truth
  pub sound : IsSoundArray s (reading x) v.number v.truth
  pub alone : HasNoOthers v s (reading x)
  pub resync : v.resync ≤ first_unsynced v.truth
  pub unmarked : v.marked ≡ false
  pub closed : NothingPending v.number x
  pub single : (place t : ℕ) → IsLive x x (member_slice place v.number) t → IsSingle (x.held (member_slice place v.number) t)
  pub open_slices : IsOpen (shape_of v) v.number x
  pub supers : (place : ℕ) → place < 16 → super_sector < x.sectors (member_slice place v.number) → IsLive x x (member_slice place v.number) super_sector
  pub sized :
      (m : Member) (t : ℕ) → Among m (shape_of v).members → t < m.reach
      → length (x.held (member_slice m.place v.number) (data_sector + t)).current ≡ 512
