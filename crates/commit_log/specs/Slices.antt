-- A set of slices, by a flag for each.
use Rattle.std.specs.Prelude.{ℕ, Bool, false, List, slice_get}
use Rattle.std.specs.Option.{option_map_or}

-- whether a slice is in the set
abbrev pub is_in : List Bool → ℕ → Bool
is_in flags d = option_map_or (λ b. b) (slice_get flags d) false
