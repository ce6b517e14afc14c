-- The superblocks of an array that are added to a log.
use Rattle.std.specs.Prelude.{◌≡◌, ℕ, ◌<◌, ◌%◌, true, not, List, [], ◌∷◌, ◌++◌, filter, slice_get, Some, None}
use Rattle.rack.specs.Seen.{Image}
use Rattle.rack.specs.Targets.{Target}
use Rattle.pool_state.specs.declared.contents.State.{State}
use Rattle.md_super.specs.declared.superblock.Super.{Super}
use Rattle.array_image.specs.Places.{member_slice, super_sector}
use Rattle.array_image.specs.States.{is_current}
use Rattle.array_image.specs.Supers.{super_in}
use Rattle.array_model.specs.declared.Seat.TheVariants.{Rebuilding}
use Rattle.array_model.specs.View.{View, place_at, is_missing_seat}
use Rattle.array_core.specs.declared.slots.Slot.{Slot}
use Rattle.array_core.specs.Slots.{slots_of}
use Rattle.array_core.specs.Superblocks.{IsSectorOf, member_super}

-- the members that aren't missing
abbrev pub present : List Slot → List Slot
present slots = filter (λ s. not (is_missing_seat s.seat)) slots

-- a target is the superblock of a member, in its slice
pub record IsSuperOn (number : ℕ) (t : Super) (s : Slot) (x : Target) : Type 0 where
  pub disk : x.disk ≡ member_slice s.place number
  pub sector : x.sector ≡ super_sector
  pub bytes : IsSectorOf (member_super t s) x.bytes

-- targets are the superblocks of members, one after the other
abbrev pub AreSupersOn : ℕ → Super → List Slot → List Target → Type 0
AreSupersOn number t [] [] = Unit {0}
AreSupersOn number t [] (x ∷ xs) = ⊥
AreSupersOn number t (s ∷ slots) [] = ⊥
AreSupersOn number t (s ∷ slots) (x ∷ xs) = IsSuperOn number t s x × AreSupersOn number t slots xs

-- To the targets of a log the superblock of each of these members that isn't missing is added, by position, and nothing else.
pub record AddsSupers (number : ℕ) (t : Super) (slots : List Slot) (before added : List Target) : Type 0 where
  pub targets : List Target
  pub appended : added ≡ before ++ targets
  pub supers : AreSupersOn number t (present slots) targets

-- those of an array
abbrev pub AddsSupersOf : View → List Target → List Target → Type 0
AddsSupersOf v before added = AddsSupers v.number v.truth (slots_of v) before added

-- ---- what contents that have them say

-- no place but the members' has a valid superblock of the array
abbrev pub HasNoOthers : View → State → Image → Type 0
HasNoOthers v t e =
    (place : ℕ) → is_current t place ≡ true → ((n : ℕ) → n < v.truth.raid_disks → place_at v n ≡ place → ⊥)
    → super_in t e v.number place ≡ None

-- members are rebuilt by whole rows, and none to its end
abbrev pub HasRowRebuilds : View → Type 0
HasRowRebuilds v = (n to : ℕ) → slice_get v.seats n ≡ Some (Rebuilding to) → (to % 128 ≡ 0) × (to < v.truth.size)
