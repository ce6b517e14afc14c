-- Superblocks that are added to a log, so that its next commit writes them.
use Rattle.std.specs.Prelude.{◌≡◌, ◌≢◌, ◌⊎◌, ℕ, ◌<◌, ◌≤◌, ◌^◌, true, not, is_ok, List, [], ◌∷◌, ◌++◌, length, slice_get, Some, option_map}
use Rattle.rack.specs.Seen.{Image}
use Rattle.rack.specs.Targets.{Target}
use Rattle.pool_state.specs.declared.contents.State.{State}
use Rattle.md_super.specs.declared.superblock.Super.{Super}
use Rattle.md_super.specs.Profile.{profiled}
use Rattle.array_image.specs.Places.{member_slice, super_sector, array_id}
use Rattle.array_image.specs.States.{is_current}
use Rattle.array_image.specs.Supers.{has_roles, has_whole_row, super_in, truth_in}
use Rattle.array_image.specs.SoundArray.{IsWrittenSuper, IsSoundArray}
use Rattle.array_image.specs.Even.{AreEven}
use Rattle.array_image.specs.Arrays.{shape_in}
use Rattle.array_model.specs.View.{View, shape_of, place_at, is_missing_seat}

-- A state of the array's pool whose marks are the run's: a member's place is current exactly where its seat isn't missing.
pub record IsStateOf (v : View) (t : State) : Type 0 where
  pub set : v.truth.set_id.0 ≡ array_id t.pool.0 v.number
  pub profile : is_ok (profiled v.truth t.extent) ≡ true
  pub events : 0 < v.truth.events
  pub events_end : v.truth.events < 2 ^ 63
  pub row : has_whole_row v.truth ≡ true
  pub roles : has_roles (length t.drives.items) v.truth ≡ true
  pub marks : (n : ℕ) → n < length v.seats → option_map (λ seat. not (is_missing_seat seat)) (slice_get v.seats n) ≡ Some (is_current t (place_at v n))

-- no place but the members' has a valid superblock of as many events
abbrev pub NoOthers : View → State → Image → Type 0
NoOthers v t e =
    (place : ℕ) (u : Super) → super_in t e v.number place ≡ Some u → is_current t place ≡ true
    → ((n : ℕ) → n < length v.seats → place ≢ place_at v n) → u.events < v.truth.events

-- a target among those of a list
abbrev pub AmongTargets : Target → List Target → Type 0
AmongTargets x [] = ⊥
AmongTargets x (first ∷ others) = (x ≡ first) ⊎ AmongTargets x others

-- contents that have each target
abbrev pub HasTargets : List Target → Image → Type 0
HasTargets xs e = (x : Target) → AmongTargets x xs → e x.disk x.sector ≡ x.bytes

-- The superblocks of an array that are added to the targets of a log: one for each member that isn't missing. In any contents that
-- have them, by any state with the run's marks, the array has the run's shape, and its superblocks agree where its rows do.
pub record Stages (v : View) (before added : List Target) : Type 0 where
  pub targets : List Target
  pub appended : added ≡ before ++ targets
  pub few : length targets ≤ 16
  pub supers : (x : Target) → AmongTargets x targets → (n : ℕ) × (n < length v.seats) × (x.disk ≡ member_slice (place_at v n) v.number) × (x.sector ≡ super_sector)
  pub sized : (x : Target) → AmongTargets x targets → length x.bytes ≡ 512
  pub shape_is : (t : State) (e : Image) → IsStateOf v t → NoOthers v t e → HasTargets targets e → shape_in t e v.number ≡ Some (shape_of v)
  pub sound :
      (t : State) (e : Image) → IsStateOf v t → NoOthers v t e → HasTargets targets e
      → IsWrittenSuper v.number v.truth
      → AreEven (shape_of v) v.number v.resync e
      → (u : Super) → truth_in t e v.number ≡ Some u → IsSoundArray t e v.number u
