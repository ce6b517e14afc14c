-- Which states a pool may have.
use Rattle.std.specs.Prelude.{ℕ, ◌+◌, ◌^◌, Bool, ◌&&◌, nat_lt, nat_le, length}
use Rattle.std.specs.Int.{is_power_of_two}
use Rattle.std.specs.List.{list_all}
use Rattle.pool_state.specs.declared.contents.Drive.{Drive}
use Rattle.pool_state.specs.declared.contents.Plan.{Plan}
use Rattle.pool_state.specs.declared.contents.Plan.TheVariants.{Nothing, Add, Replace}
use Rattle.pool_state.specs.declared.contents.State.{State}

-- an extent is a power of two from 128 to 65536 sectors
abbrev pub is_extent : ℕ → Bool
is_extent sectors = is_power_of_two sectors && (nat_le 128 sectors && nat_le sectors 65536)

abbrev pub is_drive : Drive → Bool
is_drive d = nat_le 1 d.units && nat_lt d.units (2 ^ 41)

-- the place that a plan names, or 0
abbrev pub place_of : Plan → ℕ
place_of Nothing = 0
place_of (Add place) = place
place_of (Replace place) = place

-- from 2 to 16 drives, with those of the own place and of the plan among them
abbrev pub has_places : State → ℕ → Bool
has_places s own =
    (nat_le 2 (length s.drives.items) && nat_le (length s.drives.items) 16)
    && (nat_lt own (length s.drives.items) && nat_lt (place_of s.plan) (length s.drives.items))

-- from 1 to 16 arrays, all of them ready but the last one maybe
abbrev pub has_arrays : State → Bool
has_arrays s =
    (nat_le 1 s.made && nat_le s.made 16)
    && (nat_le 1 s.joined && (nat_le s.joined s.made && nat_le s.made (s.joined + 1)))

abbrev pub has_epoch : State → Bool
has_epoch s = nat_le 1 s.epoch && nat_lt s.epoch (2 ^ 63)

-- a valid state, and a place of its list
abbrev pub is_valid : State → ℕ → Bool
is_valid s own = is_extent s.extent && (has_places s own && (has_arrays s && (list_all is_drive s.drives.items && has_epoch s)))
