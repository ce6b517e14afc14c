-- Why the drive of a place isn't replaced by a disk of so many sectors, by a pool's book.
use Rattle.std.specs.Prelude.{◌≡◌, ℕ, ◌+◌, ◌==◌, ◌&&◌, ◌||◌, not, nat_le, nat_lt, Bool, true, false, List, [], ◌∷◌, drop, find, is_some, slice_get, slice_set, take, Option, None, option_map}
use Rattle.std.specs.Bool.{then_some}
use Rattle.std.specs.List.{list_all, list_any, range_with_len}
use Rattle.std.specs.Option.{option_map_or, option_or}
use Rattle.shr_base.specs.Units.{units_of}
use Rattle.array_core.specs.Seats.{seat_of}
use Rattle.growth_plan.specs.Book.{height_of}
use Rattle.growth_plan.specs.Admission.{first_refusal, is_serial_end, replace_refusals}
use Rattle.growth_plan.specs.Target.{targets}
use Rattle.growth_plan.specs.declared.AdmitFault.{AdmitFault}
use Rattle.growth_plan.specs.declared.AdmitFault.TheVariants.{Size as OfSize, Smaller as OfSmaller, TooManyDrives as OfDrives, TooManyLayers as OfLayers}
use Rattle.growth_plan.specs.declared.ArrayNow.{ArrayNow}
use Rattle.lvm_group.specs.Growth.{fits}
use Rattle.lvm_group.specs.Runs.{Linear}
use Rattle.pool_state.specs.declared.contents.Drive.{Drive}
use Rattle.pool_state.specs.declared.contents.Plan.{Plan}
use Rattle.pool_state.specs.declared.contents.Plan.TheVariants.{Nothing, Add, Replace}
use Rattle.pool_state.specs.declared.contents.State.{State}
use Rattle.raid_laws.specs.Enlisting.{next_drive}
use Rattle.raid_laws.specs.NewDrive.{reaches_all}
use Rattle.raid_laws.specs.Raid.{Raid}
use Rattle.pool.specs.declared.replacing.GrowFault.{GrowFault}
use Rattle.pool.specs.declared.replacing.GrowFault.TheVariants.{PlanPending, NotWhole, NotResynced, Size, Smaller, TooManyDrives, TooManyLayers, TooManySegments}
use Rattle.pool.specs.Moment.{views_of}
use Rattle.pool.specs.Works.{arrays_now}

-- a plan is being carried out
abbrev pub is_planned : Plan → Bool
is_planned Nothing = false
is_planned (Add place) = true
is_planned (Replace place) = true

-- another drive than that of this place is marked missing
abbrev pub has_other_missing : State → ℕ → Bool
has_other_missing s place =
    list_any (λ (d : Drive). d.missing) (take place s.drives.items) || list_any (λ (d : Drive). d.missing) (drop (place + 1) s.drives.items)

-- an array has rows to resync
abbrev pub has_resync : List ArrayNow → Bool
has_resync arrays = list_any (λ array. nat_lt 0 array.resync) arrays

-- the drive of a place has so many units
abbrev pub has_units : State → ℕ → ℕ → Bool
has_units s place units = option_map_or (λ d. d.units == units) (slice_get s.drives.items place) false

-- the drive of a place has the units of a disk of so many sectors
abbrev pub has_same : Raid → (place sectors : ℕ) → Bool
has_same v place sectors = has_units v.state place (units_of sectors v.state.extent)

-- each refusal by how the pool stands, with its cause, in the order in which they are looked for
abbrev pub standing_refusals : Raid → ℕ → List (GrowFault × Bool)
standing_refusals v place =
    (PlanPending, is_planned v.state.plan) ∷ (NotWhole, has_other_missing v.state place) ∷ (NotResynced, has_resync (arrays_now v)) ∷ []

-- the first one whose cause holds
abbrev pub first_cause : List (GrowFault × Bool) → Option GrowFault
first_cause refusals = option_map (λ refusal. refusal.0) (find (λ refusal. refusal.1) refusals)

-- a refusal of the plan
abbrev pub fault_of : AdmitFault → GrowFault
fault_of OfSize = Size
fault_of OfSmaller = Smaller
fault_of OfDrives = TooManyDrives
fault_of OfLayers = TooManyLayers

-- a state with another plan
abbrev pub planning : Plan → State → State
planning plan s = record s { plan = plan }

-- the volume doesn't fit over what the arrays offer at the end of a state's plan
abbrev pub lacks_room : Linear → Raid → State → Bool
lacks_room l v s = not (fits l.runs (targets s (arrays_now v)))

-- the pool's next drive, of so many units
abbrev pub new_drive : ℕ → State → Drive
new_drive units s = record { id = next_drive s; units = units; missing = false }

-- a state with that drive at a place of the list, and with the plan that replaces the place's drive
abbrev pub replacing : (place units : ℕ) → State → State
replacing place units s = record (planning (Replace place) s) { drives = record { items = slice_set s.drives.items place (new_drive units s) } }

-- of it
abbrev pub lacks_segments : Linear → Raid → (place units : ℕ) → Bool
lacks_segments l v place units = lacks_room l v (replacing place units v.state)

-- A drive of so many units has all units up to the top of array n, or its place is no member of the array.
abbrev pub has_layer : Raid → (place units n : ℕ) → Bool
has_layer v place units n = not (is_some (seat_of (v.arrays n) place)) || nat_le (height_of (take (n + 1) (arrays_now v))) units

-- so it is with each array
abbrev pub has_layers : Raid → (place units : ℕ) → Bool
has_layers v place units = list_all (has_layer v place units) (range_with_len 0 v.state.made)

-- a disk of so many sectors reaches each array that a place is a member of, by its sectors and by its units
abbrev pub reaches_own : Raid → (place sectors : ℕ) → Bool
reaches_own v place sectors = reaches_all (views_of v) place sectors && has_layers v place (units_of sectors v.state.extent)

-- the first refusal by how the pool stands, by the plan, and by the room of the volume's text
abbrev pub first_of : List (GrowFault × Bool) → List (AdmitFault × Bool) → Bool → Option GrowFault
first_of standing plan lacks = option_or (first_cause standing) (option_or (option_map fault_of (first_refusal plan)) (then_some lacks TooManySegments))

-- The first refusal of all, of a replacing. In a sound pool each disk of no fewer units than the place's drive has reaches the arrays of the place, so the last isn't met there.
abbrev pub refusal_of : Linear → Raid → (place sectors : ℕ) → Option GrowFault
refusal_of l v place sectors =
    let units = units_of sectors v.state.extent in
    option_or (first_of (standing_refusals v place) (replace_refusals v.state (arrays_now v) place units) (lacks_segments l v place units))
    (then_some (not (reaches_own v place sectors)) Smaller)

-- Nothing is against it, and the disk has the units of the place's drive: no layer changes.
abbrev pub IsAdmissible : Linear → Raid → (place sectors : ℕ) → Type 0
IsAdmissible l v place sectors = (refusal_of l v place sectors ≡ None) × (has_same v place sectors ≡ true)

-- Nothing is against it, and the disk has other units: the pool is to grow by it.
abbrev pub IsLarger : Linear → Raid → (place sectors : ℕ) → Type 0
IsLarger l v place sectors = (refusal_of l v place sectors ≡ None) × (has_same v place sectors ≡ false)

-- What taking a disk of the same units in at a place relies on, by a pool's book: no other drive is missing, the disk has the units of the place's drive and reaches
-- the arrays of the place, and a serial number is left. So it is where there is no refusal, and a cleaning that finds no other drive gone leaves it so.
pub record IsAdmitted (v : Raid) (place sectors : ℕ) : Type 0 where
  pub whole : has_other_missing v.state place ≡ false
  pub units : has_units v.state place (units_of sectors v.state.extent) ≡ true
  pub reaches : reaches_all (views_of v) place sectors ≡ true
  pub serial : is_serial_end v.state ≡ false
