-- Superblocks of an array that agree.
use Rattle.std.specs.Prelude.{◌≡◌, ℕ, ◌<◌, Bool, true, false, is_some, Some}
use Rattle.rack.specs.Values.{Values}
use Rattle.rack.specs.Seen.{Image, RackView}
use Rattle.md_super.specs.declared.superblock.Super.{Super}
use Rattle.pool_state.specs.declared.contents.State.{State}
use Rattle.array_image.specs.Arrays.{place_with}
use Rattle.array_image.specs.Left.{IsLeft}
use Rattle.array_image.specs.SoundArray.{array_fields, first_unsynced}
use Rattle.array_image.specs.States.{is_current}
use Rattle.array_image.specs.Supers.{super_in, truth_in}
use Rattle.array_core.specs.Superblocks.{left_offset}
use Rattle.array_model.specs.ArrayCalls.{IncludesSpent}
use Rattle.array_model.specs.View.{IsArray, View, is_whole_array}
use Rattle.raid_laws.specs.Cleaning.{NoneFails}
use Rattle.raid_laws.specs.Moves.{IsTrackedInCall}
use Rattle.raid_laws.specs.Raid.{Raid, is_failed}

-- The superblocks of array n agree in these contents: each on a current place has the array's fields of the truth, its events among
-- them, and the member of each position has one where its place is current.
pub record SupersAgree (s : State) (r : Image) (n : ℕ) : Type 0 where
  pub truth : Super
  pub leads : truth_in s r n ≡ Some truth
  pub same : (p : ℕ) (u : Super) → is_current s p ≡ true → super_in s r n p ≡ Some u → array_fields u ≡ array_fields truth
  pub there :
      (k p : ℕ) → k < truth.raid_disks → place_with truth.roles.items k ≡ Some p → is_current s p ≡ true
      → is_some (super_in s r n p) ≡ true

-- They agree, and their truth has the fields of an array's.
pub record SayTruth (v : View) (s : State) (r : Image) (n : ℕ) : Type 0 where
  pub agree : SupersAgree s r n
  pub fields : (t : Super) → truth_in s r n ≡ Some t → array_fields t ≡ array_fields v.truth

-- An array as calls leave it that isn't young: it is whole, or its truth leaves just the rows to resync that are left in it.
pub record HasOwnRows (v : View) : Type 0 where
  pub is_array : IsArray v
  pub rows : v.young ≡ false → is_whole_array v ≡ false → first_unsynced v.truth ≡ v.resync

-- They agree, and where the array isn't young they leave the rows to resync that are left in it, and no others.
pub record AgreeLeaving (v : View) (s : State) (r : Image) (n : ℕ) : Type 0 where
  pub agree : SupersAgree s r n
  pub left : (u : Super) → truth_in s r n ≡ Some u → v.young ≡ false → u.resync_offset ≡ left_offset v

-- A part of a call after which the superblocks of each array agree, durably: in whatever a stop leaves, once it is replayed. They leave the
-- rows to resync that were left in the array. So it is of the arrays that stood before it, where no drive refuses a call.
abbrev pub MakesAgree : Raid → Raid → RackView → RackView → Type 0
MakesAgree v w a b =
    NoneFails a b
    → (n : ℕ) (vals : ℕ → Values) (spent : ℕ → Bool) → n < v.state.joined → n < v.state.made → is_failed w n ≡ false
    → IncludesSpent (w.arrays n) spent → IsTrackedInCall v a n vals spent → (r : Image) → IsLeft b r → AgreeLeaving (v.arrays n) w.state r n
