-- Slicings of at most four drives by the heights of their arrays: each set of drives has one array, perhaps of height 0.
use Rattle.std.specs.Prelude.{◌≡◌, ℕ, Bool, false, ◌-◌, ◌*◌, ◌<◌, ◌≤◌, if◌then◌else◌, List, length, All, sum_by, count_by, slice_index, slice_index_or}
use Rattle.std.specs.List.{zip}
use Rattle.layer_plan.specs.declared.search.TheConstants.{MAX_UNITS}

-- a set of four drives says for each whether it is a member
abbrev pub is_member : List Bool → ℕ → Bool
is_member set place = slice_index_or set place false

-- what an array of this height takes of a drive
abbrev pub takes : ℕ → List Bool × ℕ → ℕ
takes place array = if is_member array.0 place then array.1 else 0

-- one member's height goes to redundancy
abbrev pub offers : List Bool × ℕ → ℕ
offers array = (count_by (λ member. member) array.0 - 1) * array.1

-- heights for these sets, none above the most units, take of no drive more than it has
pub record Fits (sets : List (List Bool)) (units heights : List ℕ) : Type 0 where
  pub each : length heights ≡ length sets
  pub low : All (λ height. height ≤ MAX_UNITS) heights
  pub fits : (place : ℕ) → place < 4 → sum_by (takes place) (zip sets heights) ≤ slice_index units place

abbrev pub offered : List (List Bool) → List ℕ → ℕ
offered sets heights = sum_by offers (zip sets heights)

-- some heights that fit offer this much, and none offer more
pub record IsBestOver (sets : List (List Bool)) (units : List ℕ) (best : ℕ) : Type 0 where
  pub heights : List ℕ
  pub fits : Fits sets units heights
  pub reached : offered sets heights ≡ best
  pub greatest : (others : List ℕ) → Fits sets units others → offered sets others ≤ best
