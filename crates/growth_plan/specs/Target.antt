-- The layers at the end of a plan, and what they offer to the volume.
use Rattle.std.specs.Prelude.{ℕ, ◌+◌, ◌-◌, ◌*◌, ◌&&◌, ◌||◌, not, nat_lt, nat_le, if◌then◌else◌, min, List, [], ◌∷◌, ◌++◌, length, map, slice_index, Option, Some, None, is_some}
use Rattle.std.specs.Bool.{then_some}
use Rattle.std.specs.Option.{option_and_then, option_map_or}
use Rattle.layer_plan.specs.declared.Layer.{Layer}
use Rattle.layer_plan.specs.Layering.{layer_between, is_redundant}
use Rattle.layer_plan.specs.Slicing.{has}
use Rattle.pool_state.specs.declared.contents.Plan.{Plan}
use Rattle.pool_state.specs.declared.contents.Plan.TheVariants.{Nothing, Add, Replace}
use Rattle.pool_state.specs.declared.contents.State.{State}
use Rattle.growth_plan.specs.declared.ArrayNow.{ArrayNow}
use Rattle.growth_plan.specs.Book.{units_of, height_of, Standing, standing}

-- the place of the plan's drive
abbrev pub planned : Plan → Option ℕ
planned Nothing = None
planned (Add place) = Some place
planned (Replace place) = Some place

-- the plan's drive, where it reaches an array and isn't a member of it
abbrev pub joining : State → Standing → Option ℕ
joining s x =
    option_and_then (λ place. then_some (nat_le x.top (slice_index (units_of s) place) && not (has x.now.members.items place)) place)
    (planned s.plan)

-- the members of an array at the plan's end
abbrev pub members_at_end : State → Standing → ℕ
members_at_end s x = length x.now.members.items + (if is_some (joining s x) then 1 else 0)

-- one of them goes to redundancy
abbrev pub extents_at_end : State → Standing → ℕ
extents_at_end s x = (members_at_end s x - 1) * x.now.height

-- the next cut point above a level: the least units above it
abbrev pub least_above : ℕ → List ℕ → Option ℕ
least_above level [] = None
least_above level (own ∷ others) =
    if nat_lt level own then Some (option_map_or (λ least. min own least) (least_above level others) own) else least_above level others

-- the layer between a level and the next cut point, which exists where it has two members or more
abbrev pub layer_above : List ℕ → ℕ → Option Layer
layer_above units level =
    option_and_then (λ cut. if is_redundant (layer_between units (level, cut)) then Some (layer_between units (level, cut)) else None)
    (least_above level units)

-- the layer that is still to be made: none while an array isn't ready, and none above 16 arrays
abbrev pub new_layer : State → List ArrayNow → Option Layer
new_layer s arrays =
    if nat_lt s.joined s.made || nat_le 16 s.made then None else layer_above (units_of s) (height_of arrays)

-- the extents that each array offers at the plan's end, the lowest array first
abbrev pub targets : State → List ArrayNow → List ℕ
targets s arrays = map (extents_at_end s) (standing arrays) ++ option_map_or (λ layer. layer.extents ∷ []) (new_layer s arrays) []
