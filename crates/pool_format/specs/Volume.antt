-- The volume of a new pool, and why none is made.
use Rattle.std.specs.Prelude.{◌≡◌, ℕ, ◌*◌, List, length, slice_get, Some, get_or}
use Rattle.array_model.specs.View.{View, IsArray, sectors_of}
use Rattle.slice_rack.specs.Slices.{Slices}
use Rattle.raid_rack.specs.declared.arrays.Arrays.{Arrays}
use Rattle.raid_rack.specs.RaidRack.{no_array}
use Rattle.pool_format.specs.declared.Birth.{Birth}
use Rattle.pool_format.specs.declared.formatting.CreateFault.{CreateFault}
use Rattle.pool_format.specs.declared.formatting.CreateFault.TheVariants.{Layout, Gone, Memory}
use Rattle.pool_format.specs.declared.planning.NewPool.{NewPool}
use Rattle.pool_format.specs.Arrays.{new_views}
use Rattle.pool_format.specs.Parts.{new_state}
use Rattle.pool_format.specs.Slices.{AreLaid}

-- the sectors of an array in a list, by its number
abbrev pub sectors_in : List View → ℕ → ℕ
sectors_in arrays n = sectors_of (get_or arrays n no_array)

-- The arrays of a new pool over slices: its state, the arrays that its superblocks make, and the slices of its drives.
pub record IsNewRaid (plan : NewPool) (birth : Birth) (t : Slices) (a : Arrays) : Type 0 where
  pub state : a.state ≡ new_state plan birth
  pub arrays : a.all.items ≡ new_views birth 0 plan.arrays.items
  pub are : (n : ℕ) (v : View) → slice_get a.all.items n ≡ Some v → IsArray v
  pub laid : AreLaid plan.arrays.items (length plan.units.items) (17 * length plan.units.items) t

-- the plan isn't the fault
abbrev pub HasLayout : CreateFault → Type 0
HasLayout (Layout why) = ⊥
HasLayout (Gone disk) = Unit {0}
HasLayout Memory = Unit {0}
