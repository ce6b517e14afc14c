-- The works that a pool has still to do.
use Rattle.std.specs.Prelude.{ℕ, pos, ◌+◌, ◌*◌, ◌/◌, Bool, true, ◌==◌, nat_lt, if◌then◌else◌, List, [], ◌∷◌, ◌++◌, replicate, sum, is_some, slice_get, Option, Some, None}
use Rattle.std.specs.List.{flat_map}
use Rattle.std.specs.Option.{option_map_or}
use Rattle.std.specs.Ordering.{int_eq}
use Rattle.pool_state.specs.declared.contents.Drive.{Drive}
use Rattle.pool_state.specs.declared.contents.Plan.{Plan}
use Rattle.pool_state.specs.declared.contents.Plan.TheVariants.{Nothing, Add, Replace}
use Rattle.pool_state.specs.declared.contents.State.{State}
use Rattle.pool_state.specs.declared.contents.Work.{Work}
use Rattle.pool_state.specs.declared.contents.Work.TheVariants.{Resync, Rebuild, TakeOver, Begin, Reshape, Finish, Make, Zero, Ready, Extend, Close}
use Rattle.growth_plan.specs.declared.ArrayNow.{ArrayNow}
use Rattle.growth_plan.specs.declared.Progress.{Progress}
use Rattle.growth_plan.specs.Book.{Standing, standing}
use Rattle.growth_plan.specs.Target.{planned, joining, new_layer, targets}

-- each row left to resync, of one array
abbrev pub resyncs : Standing → List Work
resyncs x = replicate x.now.resync (Resync x.number)

-- the place that is rebuilt: that of a `Replace`, unless its drive is missing
abbrev pub rebuilt_by : Plan → List Drive → Option ℕ
rebuilt_by Nothing drives = None
rebuilt_by (Add place) drives = None
rebuilt_by (Replace place) drives = if option_map_or (λ drive. drive.missing) (slice_get drives place) true then None else Some place

abbrev pub rebuilt : State → Option ℕ
rebuilt s = rebuilt_by s.plan s.drives.items

-- each row of one array that is left to rebuild on that place
abbrev pub rebuilds_on : Option ℕ → Standing → List Work
rebuilds_on place x = option_map_or (λ p. if x.now.rebuilding == p then replicate x.now.rebuild (Rebuild x.number p) else []) place []

abbrev pub rebuilds : State → Standing → List Work
rebuilds s x = rebuilds_on (rebuilt s) x

-- a reshape from its first row on, or from where it stands
abbrev pub reshapes : ℕ → ℕ → List Work
reshapes number rows = replicate rows (Reshape number) ++ Finish number ∷ []

abbrev pub is_mirror : ArrayNow → Bool
is_mirror array = int_eq array.level (pos 1)

-- how a drive is taken into one array
abbrev pub joins : Standing → ℕ → List Work
joins x place = (if is_mirror x.now then TakeOver x.number ∷ [] else []) ++ Begin x.number place ∷ reshapes x.number x.now.rows

-- what is left of that: the rest of a reshape that was begun, and all of it where a drive has still to join
abbrev pub growths_by : Option ℕ → Standing → List Work
growths_by place x = (if x.now.reshaping then reshapes x.number x.now.reshape else []) ++ option_map_or (joins x) place []

abbrev pub growths : State → Standing → List Work
growths s x = growths_by (joining s x) x

-- the rows of an array of this height
abbrev pub rows_of : State → ℕ → ℕ
rows_of s height = (height * s.extent + 2048) / 128

-- zeros to each row of a new array, which then goes to the volume
abbrev pub zeros : ℕ → ℕ → List Work
zeros number rows = replicate rows (Zero number) ++ Ready number ∷ []

-- a new layer: the array that isn't ready, or else the one still to be made
abbrev pub makes : State → List ArrayNow → List Work
makes s arrays =
    if nat_lt s.joined s.made then zeros s.joined (option_map_or (λ array. array.zero) (slice_get arrays s.joined) 0)
    else option_map_or (λ layer. Make s.made layer.height ∷ zeros s.made (rows_of s layer.height)) (new_layer s arrays) []

-- the volume has fewer extents than the arrays offer at the plan's end
abbrev pub extends : State → Progress → List Work
extends s p = if nat_lt p.extents (sum (targets s p.arrays.items)) then Extend ∷ [] else []

abbrev pub closes : State → List Work
closes s = if is_some (planned s.plan) then Close ∷ [] else []

-- what is left of a growth: all works but rows to resync and to rebuild, and the plan's end
abbrev pub grows : State → Progress → List Work
grows s p = flat_map (growths s) (standing p.arrays.items) ++ (makes s p.arrays.items ++ extends s p)

-- all works that are left, in the order in which they are done
abbrev pub works_left : State → Progress → List Work
works_left s p =
    let arrays = standing p.arrays.items in
    flat_map resyncs arrays ++ (flat_map (rebuilds s) arrays ++ (flat_map (growths s) arrays
    ++ (makes s p.arrays.items ++ (extends s p ++ closes s))))
