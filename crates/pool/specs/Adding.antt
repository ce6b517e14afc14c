-- A drive is added: why a disk isn't taken in, by a pool's book, and what the pool is after it.
use Rattle.std.specs.Prelude.{◌≡◌, ℕ, ◌+◌, ◌==◌, ◌||◌, ◌++◌, Bool, true, false, List, [], ◌∷◌, length, Option, Some, Result, Err, IfErr, OnOk}
use Rattle.std.specs.List.{list_any}
use Rattle.rack.specs.Seen.{Rose}
use Rattle.shr_base.specs.Units.{units_of}
use Rattle.array_image.specs.States.{is_current}
use Rattle.growth_plan.specs.Admission.{add_refusals}
use Rattle.transition_laws.specs.Changes.{Change, enlists}
use Rattle.growth_laws.specs.Growing.{Turns}
use Rattle.lvm_group.specs.Runs.{Linear}
use Rattle.pool_state.specs.declared.contents.Drive.{Drive}
use Rattle.pool_state.specs.declared.contents.Plan.{Plan}
use Rattle.pool_state.specs.declared.contents.Plan.TheVariants.{Add}
use Rattle.pool_state.specs.declared.contents.State.{State}
use Rattle.raid_laws.specs.Moves.{RaisesBy}
use Rattle.raid_laws.specs.NewDrive.{SeatsDrive, joins}
use Rattle.raid_laws.specs.Raid.{Raid}
use Rattle.pool.specs.declared.replacing.GrowFault.{GrowFault}
use Rattle.pool.specs.declared.replacing.GrowFault.TheVariants.{PlanPending, NotWhole, NotResynced, Gone}
use Rattle.pool.specs.Calls.{Marks}
use Rattle.pool.specs.Continuing.{Continues}
use Rattle.pool.specs.Keeping.{Raises}
use Rattle.pool.specs.Moment.{IsNamed, Moment, moment_of, views_of}
use Rattle.pool.specs.Replaced.{HasTakingCause, IsAnswer, NamesDisk, faults_before}
use Rattle.pool.specs.Replacing.{first_of, has_resync, is_planned, lacks_room, new_drive, planning}
use Rattle.pool.specs.View.{View, book}
use Rattle.pool.specs.Works.{arrays_now}

-- ---- why it isn't taken in, by a pool's book

-- A drive is marked missing, or the list has none: no state that was read has such a list.
abbrev pub lacks_drive : State → Bool
lacks_drive s = (length s.drives.items == 0) || list_any (λ (d : Drive). d.missing) s.drives.items

-- a state with the pool's next drive at the end of the list, of so many units, and with the plan that adds it
abbrev pub adding : ℕ → State → State
adding units s = record (planning (Add (length s.drives.items)) s) {
  drives = record { items = s.drives.items ++ new_drive units s ∷ [] };
}

-- each refusal by how the pool stands, with its cause, in the order in which they are looked for
abbrev pub adding_refusals : Raid → List (GrowFault × Bool)
adding_refusals v = (PlanPending, is_planned v.state.plan) ∷ (NotWhole, lacks_drive v.state) ∷ (NotResynced, has_resync (arrays_now v)) ∷ []

-- the first refusal of a drive of so many units, by these that are looked for before
abbrev pub refusal_after : List (GrowFault × Bool) → Linear → Raid → ℕ → Option GrowFault
refusal_after standing l v units = first_of standing (add_refusals v.state (arrays_now v) units) (lacks_room l v (adding units v.state))

-- the first refusal of all, of a disk of so many sectors
abbrev pub refusal_of_add : Linear → Raid → ℕ → Option GrowFault
refusal_of_add l v sectors = refusal_after (adding_refusals v) l v (units_of sectors v.state.extent)

-- and of a drive of so many units, where no plan is being carried out and no drive is missing
abbrev pub refusal_of_units : Linear → Raid → ℕ → Option GrowFault
refusal_of_units l v units = refusal_after ((NotResynced, has_resync (arrays_now v)) ∷ []) l v units

-- ---- refusals, by how the pool stands before and after

-- Each refusal of a drive for the next place has its cause. That place is always one of them, and no other drive is found gone.
abbrev pub HasAddCause : Linear → (p q : Moment) → List ℕ → Result (Unit {0}) GrowFault → Type 0
HasAddCause l p q name result =
    let next = length p.book.state.drives.items in HasTakingCause (next + 1) next (refusal_of_add l p.book) ⊥ p q name result

-- ---- the call

-- It isn't taken in: the book is as it was, and slices lie where they lay.
abbrev pub IsUnchanged : Moment → Moment → Type 0
IsUnchanged p q = (q.book ≡ p.book) × (q.slices ≡ p.slices)

-- The units of a disk, as a drive of the pool.
abbrev pub units_on : Moment → Moment → ℕ → ℕ
units_on p q disk = units_of (q.sectors disk) p.book.state.extent

-- the book with the pool's next drive on a place, by a plan
abbrev pub next_change : Moment → Moment → (place : ℕ) → Plan → (disk : ℕ) → Change
next_change p q place plan disk = enlists place (units_on p q disk) plan (joins (views_of p.book) place (q.sectors disk))

-- The disk is the drive of a place: that alone is changed of the book, by one commit, but for losses; and where it is marked itself it refused a call. It has a log slice, and
-- the slices of the arrays that the place is a member of: of those its members are to be rebuilt from their start.
pub record IsTakenIn (p q : Moment) (place : ℕ) (plan : Plan) (disk : ℕ) : Type 0 where
  pub turns : Turns (λ v. next_change p q place plan disk) (λ v w. ⊥) p.book q.book true
  pub cause : is_current q.book.state place ≡ false → Rose (faults_before p disk) (q.faults disk)
  pub seats : SeatsDrive (views_of p.book) place disk (q.sectors disk) p.slices q.slices

-- it is the drive of the next place
abbrev pub IsAdded : Moment → Moment → ℕ → Type 0
IsAdded p q disk = IsTakenIn p q (length p.book.state.drives.items) (Add (length p.book.state.drives.items)) disk

-- A disk, which isn't a current drive's, is added.
pub record AddsBy (x y : View) (disk : ℕ) (result : Result (Unit {0}) GrowFault) : Type 0 where
  pub continues : Continues x y
  pub raises : RaisesBy 36 (book x) (book y)
  pub names : y.shelf.names ≡ x.shelf.names
  pub disks : y.bay.disks ≡ x.bay.disks
  pub answer : IsAnswer (refusal_of_add x.linear (book x) (x.bay.sectors disk)) result
  pub not_whole : result ≡ Err NotWhole → refusal_of_add x.linear (book x) (x.bay.sectors disk) ≡ Some NotWhole
  pub gone : result ≡ Err Gone → Rose (x.bay.faults disk) (y.bay.faults disk)
  pub marks : Marks x y
  pub declined : IfErr result (λ e. IsUnchanged (moment_of x) (moment_of y))
  pub added : OnOk result (IsAdded (moment_of x) (moment_of y) disk)

-- The disk of a name becomes the drive of the next place. Or it doesn't, for the first reason that there is.
pub record AddsNamed (p q : Moment) (name : List ℕ) (result : Result (Unit {0}) GrowFault) : Type 0 where
  pub names : NamesDisk p q name
  pub cause : HasAddCause p.linear p q name result
  pub declined : IfErr result (λ e. IsUnchanged p q)
  pub added : OnOk result ((d : ℕ) → IsNamed q name d → IsAdded p q d)

-- So a call does, which attaches the disk where it isn't yet. Of contents nothing is said.
pub record AddsDrive (x y : View) (name : List ℕ) (result : Result (Unit {0}) GrowFault) : Type 0 where
  pub continues : Continues x y
  pub raises : Raises 1 x y
  pub marks : Marks x y
  pub adds : AddsNamed (moment_of x) (moment_of y) name result
