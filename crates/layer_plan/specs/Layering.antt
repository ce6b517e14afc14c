-- The layers of a list of drives, by the cut points of their units.
use Rattle.std.specs.Prelude.{◌≡◌, ℕ, Bool, ◌-◌, ◌*◌, ◌⊎◌, ◌↔◌, List, length, filter, map, drop, slice_index, Contains, nat_le}
use Rattle.std.specs.List.{range_with_len, zip}
use Rattle.std.specs.List.Sorted.{IsStrictlyIncreasing}
use Rattle.layer_plan.specs.declared.Layer.{Layer}
use Rattle.layer_plan.specs.Slicing.{Array}

-- the cut points: 0 and the distinct units, ascending
pub record IsCutPoints (units cuts : List ℕ) : Type 0 where
  pub ascending : IsStrictlyIncreasing cuts
  pub are : (level : ℕ) → Contains cuts level ↔ ((level ≡ 0) ⊎ Contains units level)

-- the drives with at least so many units, in order of place
abbrev pub places_reaching : List ℕ → ℕ → List ℕ
places_reaching units level =
    filter (λ place. nat_le level (slice_index units place)) (range_with_len 0 (length units))

-- the layer between two cut points
abbrev pub layer_between : List ℕ → ℕ × ℕ → Layer
layer_between units step =
    let members = places_reaching units step.1 in
    let height = step.1 - step.0 in
    record { members = record { items = members }; height = height; extents = (length members - 1) * height }

-- a layer exists where it has two members or more
abbrev pub is_redundant : Layer → Bool
is_redundant layer = nat_le 2 (length layer.members.items)

-- the layers between neighbours of these cut points, the lowest first
abbrev pub layers_between : List ℕ → List ℕ → List Layer
layers_between units cuts = filter is_redundant (map (layer_between units) (zip cuts (drop 1 cuts)))

-- the layers of these drives
pub record IsLayering (units : List ℕ) (layers : List Layer) : Type 0 where
  pub cuts : List ℕ
  pub cut_points : IsCutPoints units cuts
  pub between : layers ≡ layers_between units cuts

-- a layer as an array of a slicing
abbrev pub array_of : Layer → Array
array_of layer = record { members = layer.members.items; height = layer.height }
