-- The slices of a new pool's drives: the log slice of each, and those of its members.
use Rattle.std.specs.Prelude.{◌≡◌, ℕ, ◌+◌, ◌-◌, ◌<◌, ◌==◌, if◌then◌else◌, nat_lt, List, slice_get, Some, None}
use Rattle.std.specs.Option.{option_map_or}
use Rattle.slice_rack.specs.Slices.{Slices, seat_of, first_of, sectors_of}
use Rattle.array_image.specs.Places.{data_sector, log_sectors, place_of, slice_of, state_sector}
use Rattle.pool_format.specs.declared.planning.NewArray.{NewArray}
use Rattle.pool_format.specs.Plan.{has}

-- how many sectors a slice has, by its number
abbrev pub sectors_planned : List NewArray → ℕ → ℕ
sectors_planned arrays k =
    if slice_of k == 0 then log_sectors
    else option_map_or (λ a. if has a.members.items (place_of k) then a.size + data_sector else 0) (slice_get arrays (slice_of k - 1)) 0

-- where it begins
abbrev pub first_planned : List NewArray → ℕ → ℕ
first_planned arrays k = if slice_of k == 0 then state_sector else option_map_or (λ a. a.first) (slice_get arrays (slice_of k - 1)) 0

-- the slices below a number are laid, on disks that are their places, and no others
pub record AreLaid (arrays : List NewArray) (many limit : ℕ) (t : Slices) : Type 0 where
  pub seats : (p : ℕ) → seat_of t p ≡ (if nat_lt p many then Some p else None)
  pub sectors : (k : ℕ) → sectors_of t k ≡ (if nat_lt k limit then sectors_planned arrays k else 0)
  pub firsts : (k : ℕ) → k < limit → 0 < sectors_of t k → first_of t k ≡ first_planned arrays k
