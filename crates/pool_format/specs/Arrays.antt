-- The arrays of a new pool, as their superblocks make them.
use Rattle.std.specs.Prelude.{ℕ, ◌+◌, false, List, [], ◌∷◌, map, Some, Result, Ok, Err}
use Rattle.array_model.specs.View.{View}
use Rattle.array_core.specs.declared.Found.{Found}
use Rattle.array_core.specs.declared.ArrayFault.{ArrayFault}
use Rattle.array_core.specs.Opening.{opened}
use Rattle.raid_rack.specs.RaidRack.{no_array}
use Rattle.pool_format.specs.declared.Birth.{Birth}
use Rattle.pool_format.specs.declared.planning.NewArray.{NewArray}
use Rattle.pool_format.specs.Parts.{new_super}

-- the superblocks of its members
abbrev pub new_found : Birth → NewArray → ℕ → List Found
new_found birth a number = map (λ place. record { place = place; seen = Some (new_super birth a number place) }) a.members.items

abbrev pub view_or_none : Result View ArrayFault → View
view_or_none (Ok v) = v
view_or_none (Err fault) = no_array

-- the array that they make
abbrev pub new_view : Birth → NewArray → ℕ → View
new_view birth a number = view_or_none (opened number false (new_found birth a number))

-- all arrays, the first one of this number
abbrev pub new_views : Birth → ℕ → List NewArray → List View
new_views birth number [] = []
new_views birth number (a ∷ others) = new_view birth a number ∷ new_views birth (number + 1) others
