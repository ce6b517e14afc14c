-- Why drives are refused, with the test of their logs handed in, and the faults that say so.
use Rattle.std.specs.Prelude.{◌≡◌, ℕ, ◌<◌, ◌≤◌, Bool, ◌==◌, not, nat_lt, true, false, if◌then◌else◌, count_by, find, Option, Some, None, option_map, is_some, is_none}
use Rattle.std.specs.Option.{option_and_then, option_map_or, option_or}
use Rattle.array_image.specs.States.{current_places}
use Rattle.pool_state.specs.declared.contents.State.{State as PoolState}
use Rattle.pool_image.specs.Drives.{Found}
use Rattle.pool_image.specs.Meaning.{Part as MeaningPart, has_log, in_table, in_state, in_log, in_superblock, Refusal, absent, damaged, too_few, dirty_degraded, absent_count, arrays_of, has_supers, has_table, is_dirty_degraded, is_too_few}
use Rattle.rack.specs.Seen.{RackView}
use Rattle.pool_image.specs.Disks.{Seats}
use Rattle.pool_check.specs.declared.Halt.{Halt}
use Rattle.pool_check.specs.declared.Halt.TheVariants.{Fault, Went}
use Rattle.pool_check.specs.Drives.{Goes}
use Rattle.pool_check.specs.declared.Part.{Part}
use Rattle.pool_check.specs.declared.Part.TheVariants.{Table, State, Log, Superblock}
use Rattle.pool_check.specs.declared.CheckFault.{CheckFault}
use Rattle.pool_check.specs.declared.CheckFault.TheVariants.{Absent, Damaged, TooFew, DirtyDegraded}

-- every place but one, which is the lowest with a log that isn't well formed
abbrev pub is_well : Option ℕ → ℕ → Bool
is_well bad place = not (option_map_or (λ p. p == place) bad false)

-- the first part of a place's drive that isn't valid, behind its table
abbrev pub damage_later : (ℕ → Bool) → Found → ℕ → ℕ → Option MeaningPart
damage_later well f place d =
    if is_none (f.identities d).copied then Some in_state
    else if not (well place) then Some in_log
    else if not (has_supers f place) then Some in_superblock
    else None

-- the same, by the tests of its copy, its log and its superblocks
abbrev pub part_behind : Bool → Bool → Bool → Option MeaningPart
part_behind copied well sound =
    if not copied then Some in_state
    else if not well then Some in_log
    else if not sound then Some in_superblock
    else None

-- the first part of a place's drive that isn't valid, on its disk
abbrev pub damage_by : (ℕ → Bool) → Found → ℕ → ℕ → Option MeaningPart
damage_by well f place d =
    if not (has_table f place d) then Some in_table else damage_later well f place d

abbrev pub damage_with : (ℕ → Bool) → Found → ℕ → Option MeaningPart
damage_with well f place = option_and_then (damage_by well f place) (f.seats place)

-- the lowest place with a damage
abbrev pub first_with : (ℕ → Bool) → Found → Option Refusal
first_with well f =
    option_and_then (λ place. option_map (damaged place) (damage_with well f place))
    (find (λ place. is_some (damage_with well f place)) (current_places f.state))

-- the refusals of arrays, and what is left to come after them
abbrev pub refused_arrays : Option Refusal → Found → Option Refusal
refused_arrays last f =
    option_or (option_map too_few (find (is_too_few f) (arrays_of f)))
    (option_or (option_map dirty_degraded (find (is_dirty_degraded f) (arrays_of f))) last)

-- The first refusal of a pool, where the places whose logs are well formed are given, and another one is left to come. With the
-- places' own logs and the refusal of the volume it is that of the meaning of images.
unfoldable pub refused_with : (ℕ → Bool) → Option Refusal → Found → Option Refusal
refused_with well last f =
    if nat_lt 1 (absent_count f) then Some (absent (absent_count f))
    else option_or (first_with well f) (refused_arrays last f)

-- the lowest place with a disk whose log isn't well formed, if there is one
abbrev pub IsLowestBad : Found → Option ℕ → Type 0
IsLowestBad f None = (place d : ℕ) → f.seats place ≡ Some d → has_log f place ≡ true
IsLowestBad f (Some bad) =
    (has_log f bad ≡ false) × ((d : ℕ) × (f.seats bad ≡ Some d))
    × ((place d : ℕ) → place < bad → f.seats place ≡ Some d → has_log f place ≡ true)

-- ---- the faults that say so

abbrev pub part_by : Part → MeaningPart
part_by Table = in_table
part_by State = in_state
part_by Log = in_log
part_by Superblock = in_superblock

abbrev pub refusal_by : CheckFault → Refusal
refusal_by (Absent count) = absent count
refusal_by (Damaged place part) = damaged place (part_by part)
refusal_by (TooFew array) = too_few array
refusal_by (DirtyDegraded array) = dirty_degraded array

-- a place's drive is damaged, and the fault says so
abbrev pub IsDamage : (ℕ → Bool) → Found → ℕ → CheckFault → Type 0
IsDamage well f place fault =
    (part : MeaningPart) × (damage_with well f place ≡ Some part) × (refusal_by fault ≡ damaged place part)

-- a check ends with a fault of which this holds, or because the disk of a place went
abbrev pub Halts : RackView → RackView → Seats → (CheckFault → Type 0) → Halt → Type 0
Halts x y seats holds (Fault fault) = holds fault
Halts x y seats holds (Went place) = Goes x y seats place

-- ---- how many drives are wanting, whatever the disks tell

-- the current places without a disk
abbrev pub absent_among : PoolState → Seats → ℕ
absent_among s seats = count_by (λ place. is_none (seats place)) (current_places s)

-- A fault says how many places have no disk, where that is two or more; else at most one has none.
abbrev pub CountsAbsent : ℕ → CheckFault → Type 0
CountsAbsent wanting (Absent count) = (count ≡ wanting) × (1 < wanting)
CountsAbsent wanting (Damaged place part) = wanting ≤ 1
CountsAbsent wanting (TooFew array) = wanting ≤ 1
CountsAbsent wanting (DirtyDegraded array) = wanting ≤ 1

-- a fault of a drive or an array, which comes where at most one place has none
abbrev pub IsOfFew : CheckFault → Type 0
IsOfFew fault = (wanting : ℕ) → wanting ≤ 1 → CountsAbsent wanting fault

-- a check ends with a fault of which this holds, or otherwise
abbrev pub IsFault : (CheckFault → Type 0) → Halt → Type 0
IsFault holds (Fault fault) = holds fault
IsFault holds (Went place) = Unit {0}
