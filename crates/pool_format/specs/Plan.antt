-- The plan of a new pool: the units of its drives, and its arrays with the slices of their members.
use Rattle.std.specs.Prelude.{◌≡◌, ℕ, Bool, true, ◌+◌, ◌-◌, ◌*◌, ◌<◌, ◌≤◌, ◌^◌, ◌==◌, List, [], ◌∷◌, All, map, filter, length, position, slice_get, Some, sum, sum_by, take}
use Rattle.std.specs.List.{range_with_len}
use Rattle.rack.specs.Seen.{RackView}
use Rattle.shr_base.specs.Units.{units_of}
use Rattle.layer_plan.specs.declared.Layer.{Layer}
use Rattle.layer_plan.specs.declared.PlanError.{PlanError}
use Rattle.layer_plan.specs.declared.PlanError.TheVariants.{TooFew, TooMany, NoRoom}
use Rattle.layer_plan.specs.Layering.{IsLayering}
use Rattle.layer_plan.specs.Slicing.{IsBest}
use Rattle.pool_state.specs.Valid.{is_extent}
use Rattle.array_image.specs.Places.{arrays_first}
pub use Rattle.new_array.specs.Supers.{has}
use Rattle.pool_format.specs.declared.planning.NewArray.{NewArray}
use Rattle.pool_format.specs.declared.planning.NewPool.{NewPool}

-- the units of a rack's disks, in their order
abbrev pub units_on : RackView → ℕ → List ℕ
units_on x extent = map (λ disk. units_of (x.sectors disk) extent) (range_with_len 0 x.disks)

-- drives of so many units have no plan, for this reason
abbrev pub IsUnplanned : List ℕ → PlanError → Type 0
IsUnplanned units TooFew = length units < 2
IsUnplanned units TooMany = 16 < length units
IsUnplanned units (NoRoom drive) =
    (2 ≤ length units) × (length units ≤ 16) × (position (λ own. own == 0) units ≡ Some drive)

-- a layer as an array whose members' slices begin at a sector: 4096 sectors, and its height in extents
abbrev pub array_with : ℕ → ℕ → Layer → NewArray
array_with first extent layer = record {
  members = layer.members;
  first = first;
  size = layer.height * extent + 2048;
  extents = layer.extents;
}

-- the arrays of layers, whose slices lie one behind the other from a sector on
abbrev pub arrays_from : ℕ → ℕ → List Layer → List NewArray
arrays_from first extent [] = []
arrays_from first extent (layer ∷ others) =
    array_with first extent layer ∷ arrays_from (first + (layer.height * extent + 4096)) extent others

-- the sector where the slices end that lie before those of the layer of a number
abbrev pub slices_before : ℕ → ℕ → List Layer → ℕ
slices_before extent n layers = arrays_first + sum_by (λ layer. layer.height * extent + 4096) (take n layers)

-- the extents that all its arrays offer
abbrev pub capacity_of : NewPool → ℕ
capacity_of plan = sum (map (λ a. a.extents) plan.arrays.items)

-- the plan of drives of so many units: no slicing of them offers more
pub record IsPlanOf (units : List ℕ) (extent : ℕ) (plan : NewPool) : Type 0 where
  pub extent_is : plan.extent ≡ extent
  pub units_are : plan.units.items ≡ units
  pub layers : List Layer
  pub layering : IsLayering units layers
  pub arrays_are : plan.arrays.items ≡ arrays_from arrays_first extent layers
  pub best : IsBest units (capacity_of plan)

-- One array of a plan: two members or more, which are places of drives in ascending order, and so many whole extents of each.
pub record IsNewArray (extent drives : ℕ) (a : NewArray) : Type 0 where
  pub reaches : ℕ → Bool
  pub members_are : a.members.items ≡ filter reaches (range_with_len 0 drives)
  pub least : 2 ≤ length a.members.items
  pub height : ℕ
  pub some : 0 < height
  pub low : height < 2 ^ 41
  pub size_is : a.size ≡ height * extent + 2048
  pub extents_are : a.extents ≡ (length a.members.items - 1) * height
  pub first : arrays_first ≤ a.first
  pub small : a.size < 2 ^ 48

-- what holds of each plan
pub record IsPlan (plan : NewPool) : Type 0 where
  pub extent : is_extent plan.extent ≡ true
  pub least : 2 ≤ length plan.units.items
  pub most : length plan.units.items ≤ 16
  pub units : (k u : ℕ) → slice_get plan.units.items k ≡ Some u → (0 < u) × (u < 2 ^ 41)
  pub some : 0 < length plan.arrays.items
  pub few : length plan.arrays.items ≤ 16
  pub each : (n : ℕ) (a : NewArray) → slice_get plan.arrays.items n ≡ Some a → IsNewArray plan.extent (length plan.units.items) a
  -- slices of one drive don't overlap
  pub ordered :
      (k n : ℕ) (a b : NewArray) → k < n → slice_get plan.arrays.items k ≡ Some a → slice_get plan.arrays.items n ≡ Some b
      → a.first + (a.size + 2048) ≤ b.first

-- disks on which the plan's slices lie before the backup of the table
pub record HasRoom (plan : NewPool) (x : RackView) : Type 0 where
  pub disks : x.disks ≡ length plan.units.items
  pub small : (d : ℕ) → d < x.disks → x.sectors d < 2 ^ 48
  pub logs : (d : ℕ) → d < x.disks → arrays_first + 33 ≤ x.sectors d
  pub members :
      (n d : ℕ) (a : NewArray) → slice_get plan.arrays.items n ≡ Some a → has a.members.items d ≡ true
      → a.first + (a.size + 2048) + 33 ≤ x.sectors d

-- sums of their fields fit
abbrev pub AreLow : List NewArray → Type 0
AreLow arrays = All (λ a. a.first + (a.size + 2048) < 2 ^ 62) arrays
