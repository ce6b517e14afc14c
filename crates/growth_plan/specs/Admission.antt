-- Which drives a pool takes in.
use Rattle.std.specs.Prelude.{ℕ, Bool, ◌&&◌, ◌||◌, ◌==◌, not, nat_lt, nat_le, List, [], ◌∷◌, ◌++◌, length, find, is_some, remove, slice_index, slice_set, Option, option_map}
use Rattle.std.specs.List.{list_any, list_all}
use Rattle.pool_state.specs.declared.contents.State.{State}
use Rattle.growth_plan.specs.declared.AdmitFault.{AdmitFault}
use Rattle.growth_plan.specs.declared.AdmitFault.TheVariants.{Size, Smaller, TooManyDrives, TooManyLayers}
use Rattle.growth_plan.specs.declared.ArrayNow.{ArrayNow}
use Rattle.growth_plan.specs.Book.{units_of, height_of}
use Rattle.growth_plan.specs.Target.{layer_above}

-- units that are those of one of these drives, or at least those of all others
abbrev pub is_fitting : List ℕ → List ℕ → ℕ → Bool
is_fitting drives others units = list_any (λ own. own == units) drives || list_all (λ own. nat_le own units) others

-- no number is left for a new drive
abbrev pub is_serial_end : State → Bool
is_serial_end s = s.serial == 0xffffffff

-- a 17th layer would be made over drives of these units
abbrev pub makes_17th : State → List ArrayNow → List ℕ → Bool
makes_17th s arrays units = nat_le 16 s.made && is_some (layer_above units (height_of arrays))

-- each refusal of a drive that is added, with its cause, in the order in which they are looked for
abbrev pub add_refusals : State → List ArrayNow → ℕ → List (AdmitFault × Bool)
add_refusals s arrays units =
    (Size, not (is_fitting (units_of s) (units_of s) units))
    ∷ (TooManyDrives, nat_le 16 (length s.drives.items) || is_serial_end s)
    ∷ (TooManyLayers, makes_17th s arrays (units_of s ++ units ∷ []))
    ∷ []

-- and of a drive that takes the part of the one at a place
abbrev pub replace_refusals : State → List ArrayNow → ℕ → ℕ → List (AdmitFault × Bool)
replace_refusals s arrays place units =
    (Size, not (is_fitting (units_of s) (remove (units_of s) place) units))
    ∷ (Smaller, nat_lt units (slice_index (units_of s) place))
    ∷ (TooManyDrives, is_serial_end s)
    ∷ (TooManyLayers, makes_17th s arrays (slice_set (units_of s) place units))
    ∷ []

-- the first refusal whose cause holds, if there is one
abbrev pub first_refusal : List (AdmitFault × Bool) → Option AdmitFault
first_refusal refusals = option_map (λ refusal. refusal.0) (find (λ refusal. refusal.1) refusals)
