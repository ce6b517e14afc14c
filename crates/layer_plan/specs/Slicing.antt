-- Slicings of drives into redundant arrays, and the best of them. A drive is its place in a list of units;
-- no order of the drives, no cut point and no layer occurs here.
use Rattle.std.specs.Prelude.{◌≡◌, ℕ, Bool, ◌-◌, ◌*◌, ◌<◌, ◌≤◌, ◌==◌, if◌then◌else◌, List, length, All, sum_by, slice_index}
use Rattle.std.specs.List.{IsDistinct, list_any}

-- a redundant array: the places of its member drives, and how many units it takes of each of them
pub record Array : Type 0 where
  pub members : List ℕ
  pub height : ℕ

-- whether a place is among the members
abbrev pub has : List ℕ → ℕ → Bool
has members place = list_any (λ member. member == place) members

-- a set of at least two of so many drives
pub record IsRedundant (drives : ℕ) (array : Array) : Type 0 where
  pub distinct : IsDistinct (λ a b. a == b) array.members
  pub places : All (λ place. place < drives) array.members
  pub pair : 2 ≤ length array.members

-- what an array takes of a drive
abbrev pub height_on : Array → ℕ → ℕ
height_on array place = if has array.members place then array.height else 0

-- what all arrays take of a drive
abbrev pub load : List Array → ℕ → ℕ
load arrays place = sum_by (λ array. height_on array place) arrays

-- a list of redundant arrays which together take of no drive more than it has
pub record IsSlicing (units : List ℕ) (arrays : List Array) : Type 0 where
  pub redundant : All (IsRedundant (length units)) arrays
  pub fits : (place : ℕ) → place < length units → load arrays place ≤ slice_index units place

-- one member's height goes to redundancy
abbrev pub array_capacity : Array → ℕ
array_capacity array = (length array.members - 1) * array.height

abbrev pub slicing_capacity : List Array → ℕ
slicing_capacity arrays = sum_by array_capacity arrays

-- the capacity that some slicing of these drives reaches and none exceeds
pub record IsBest (units : List ℕ) (capacity : ℕ) : Type 0 where
  pub arrays : List Array
  pub slicing : IsSlicing units arrays
  pub reached : slicing_capacity arrays ≡ capacity
  pub greatest : (others : List Array) → IsSlicing units others → slicing_capacity others ≤ capacity
