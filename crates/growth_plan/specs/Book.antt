-- A pool at one moment: its state, how each of its arrays stands, and what its drives have room for.
use Rattle.std.specs.Prelude.{◌≡◌, ℕ, ◌+◌, ◌^◌, ◌<◌, ◌≤◌, true, List, [], ◌∷◌, length, map, sum_by, All}
use Rattle.pool_state.specs.declared.contents.State.{State}
use Rattle.pool_state.specs.Valid.{is_valid}
use Rattle.growth_plan.specs.declared.ArrayNow.{ArrayNow}
use Rattle.growth_plan.specs.declared.Progress.{Progress}

-- numbers far from 2 ^ 64, whatever a drive says
pub record IsSmall (array : ArrayNow) : Type 0 where
  pub height : array.height < 2 ^ 52
  pub rows : array.rows < 2 ^ 52
  pub resync : array.resync < 2 ^ 52
  pub rebuild : array.rebuild < 2 ^ 52
  pub reshape : array.reshape < 2 ^ 52
  pub zero : array.zero < 2 ^ 52

-- what every call here needs: a valid state and all arrays that it has made. Nothing says that they agree.
pub record IsBook (s : State) (p : Progress) : Type 0 where
  pub valid : is_valid s 0 ≡ true
  pub made : length p.arrays.items ≡ s.made
  pub pairs : All (λ array. 2 ≤ length array.members.items) p.arrays.items
  pub small : All IsSmall p.arrays.items
  pub extents : p.extents < 2 ^ 52

-- the units of all drives in the list, missing ones included
abbrev pub units_of : State → List ℕ
units_of s = map (λ drive. drive.units) s.drives.items

-- what these arrays take together of a drive that is a member of all of them
abbrev pub height_of : List ArrayNow → ℕ
height_of arrays = sum_by (λ array. array.height) arrays

-- an array with its number and its top, which is its height and those of all lower arrays
pub record Standing : Type 0 where
  pub number : ℕ
  pub top : ℕ
  pub now : ArrayNow

-- these arrays where so many stand below them, up to a level
abbrev pub standing_from : ℕ → ℕ → List ArrayNow → List Standing
standing_from number level [] = []
standing_from number level (array ∷ above) =
    record { number = number; top = level + array.height; now = array } ∷ standing_from (number + 1) (level + array.height) above

abbrev pub standing : List ArrayNow → List Standing
standing arrays = standing_from 0 0 arrays
