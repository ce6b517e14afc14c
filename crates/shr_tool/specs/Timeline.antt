-- A run as a list of events at moments that never fall.
use Rattle.std.specs.Prelude.{◌≡◌, ◌⊎◌, ℕ, ◌*◌, ◌<◌, ◌≤◌, true, false, List, [], ◌∷◌, drop, Some, Ok, Err}
use Rattle.rack.specs.Seen.{Image, Rose}
use Rattle.rack.specs.Values.{Keeps}
use Rattle.shr_script.specs.declared.Command.TheVariants.{Lose}
use Rattle.flat_array.specs.Array.{FlatArray}
use Rattle.array_image.specs.States.{is_current}
use Rattle.slice_rack.specs.Runs.{IsSliced}
use Rattle.slice_rack.specs.Slices.{seat_of}
use Rattle.lvm_group.specs.Runs.{sectors_in}
use Rattle.raid_laws.specs.Book.{OnlyMarksSince}
use Rattle.raid_laws.specs.Moves.{RaisesBy}
use Rattle.raid_laws.specs.Losses.{has_other}
use Rattle.pool.specs.Calls.{CallFrame}
use Rattle.pool.specs.Keeping.{HasMarkedSeats, KeepsBook, KeepsBookBut, KeepsWorks, Raises, most_raised}
use Rattle.raid_laws.specs.Raid.{Raid}
use Rattle.pool.specs.Moment.{IsNamed, KeepsDisks, MarksBut, Moment, moment_of}
use Rattle.pool.specs.Continuing.{Continues, KeepsOutside}
use Rattle.pool.specs.Entering.{StaysStill}
use Rattle.pool.specs.Proceeding.{has_growth}
use Rattle.pool.specs.Naming.{EntersNamed, LeavesNamed}
use Rattle.pool.specs.Replaced.{ChangesDrive, HasGrowCause, HasTable, IsDeclined, IsReplaced, LeavesNew, MeansBy, MeansFormer, TakesImage, is_vacant}
use Rattle.pool.specs.View.{View, book, spent_by}
use Rattle.pool.specs.Works.{HasRowsAlone, KeepsAllMembers, KeepsPlan, StopsStuck, left_by, works_by}
use Rattle.pool.specs.Volume.{VolumeIs, Means, size_of}
use Rattle.shr_tool.specs.Events.{Event, IsOfArray, Takes, Touches, TouchesLast, becomes, calls_in, calls_none, line_of, takes_disk, text_of, works_on}
use Rattle.shr_tool.specs.StatusText.{status_text}
use Rattle.shr_tool.specs.Events.Event.{answered, spent, lost, last, replaced, declined, stepped, stuck, shown}

-- contents of the disks mean an array, in the sectors that aren't spent at a moment, read where the volume and the slices of drives lie then
abbrev pub MeansAt : Moment → FlatArray → Image → Type 0
MeansAt q a disks = MeansBy q.slices q a disks

-- Steps of maintenance: so many works are left by the book at their end. Where no disk's faults rose, and only rows to resync and to rebuild
-- were left of the arrays, these are the works that were left, but for the first ones, as many as were asked for, or none. Members stay but for losses and rebuilds, and a plan goes on, or has ended as the last work.
pub record HasSteps (p q : Moment) (count left : ℕ) : Type 0 where
  pub left_is : left ≡ left_by q.linear q.book
  pub progress :
      ((d : ℕ) → Rose (p.faults d) (q.faults d) → ⊥) → HasRowsAlone p.book
      → HasRowsAlone q.book × (works_by q.linear q.book ≡ drop count (works_by p.linear p.book))
  pub members : KeepsAllMembers p.book q.book
  pub plan : KeepsPlan p.linear p.book q.book

-- Why an event was answered so: the sector that it refuses is spent at its end, and those that it served weren't before, nor is the last
-- one at its end; a drive that is lost was current, and another one is left; a drive is replaced, or isn't for a reason; works of
-- maintenance were done, where none of a growth was left, or an array can't do one; how the pool stands is said of the book at the event's end.
abbrev pub HasCause : Moment → Moment → Event → Type 0
HasCause p q (answered line) =
    ((s : ℕ) → Touches (sectors_in p.linear) line s → spent_by p.linear p.book s ≡ false)
    × ((s : ℕ) → TouchesLast (sectors_in p.linear) line s → spent_by q.linear q.book s ≡ false)
    × ((place : ℕ) → line ≡ Ok (Lose place) → is_current p.book.state place ≡ false)
    × IsOfArray line
HasCause p q (spent line sector) =
    Touches (sectors_in p.linear) line sector
    × (spent_by q.linear q.book sector ≡ true)
    × ((s : ℕ) → Touches (sectors_in p.linear) line s → s < sector → spent_by p.linear p.book s ≡ false)
HasCause p q (lost place) = (is_current p.book.state place ≡ true) × (is_current q.book.state place ≡ false)
HasCause p q (last place) = (is_current p.book.state place ≡ true) × (has_other p.book.state place ≡ false)
HasCause p q (replaced place name) =
    HasGrowCause p.linear p q place name (Ok tt) × ((d : ℕ) → IsNamed q name d → IsReplaced p q place d)
HasCause p q (declined place name fault) = HasGrowCause p.linear p q place name (Err fault) × IsDeclined p q place fault
HasCause p q (stepped count left) = (has_growth p.linear p.book ≡ false) × HasSteps p q count left
HasCause p q (stuck count array) = (has_growth p.linear p.book ≡ false) × StopsStuck ((d : ℕ) → Rose (p.faults d) (q.faults d) → ⊥) p.linear count p.book q.book array
HasCause p q (shown text) = text ≡ status_text q.linear q.book

-- Marks alone come to the pool's state, each of a drive whose disk's faults rose or that the script lost.
pub record MarksFor (p q : Moment) (event : Event) : Type 0 where
  pub after : OnlyMarksSince p.book.state q.book.state
  pub cause : MarksBut (λ place. event ≡ lost place) p q

-- What an event does to the arrays of a book: they lose the members on drives that are marked meanwhile, and no row is left to resync that wasn't. Where a drive is
-- replaced the members of its place are new ones.
abbrev pub KeepsBookIn : Event → Raid → Raid → Type 0
KeepsBookIn (replaced place name) v w = KeepsBookBut place v w
KeepsBookIn event v w = KeepsBook v w

-- What so many calls do to a pool's book: its numbers rise by a bounded number for each, its arrays are kept so; and at their end just those members are missing whose
-- drives are marked.
pub record KeepsStanding (Keeps : Raid → Raid → Type 0) (calls : ℕ) (p q : Moment) : Type 0 where
  pub raises : RaisesBy (most_raised * calls) p.book q.book
  pub keeps : Keeps p.book q.book
  pub seated : HasMarkedSeats q.book

-- A drive that is marked missing isn't written again: the disk of its place keeps what it holds, unless it is one of these.
abbrev pub KeepsMissing : Moment → Moment → (ℕ → Type 0) → Type 0
KeepsMissing p q named =
    (place d s : ℕ) → is_vacant p.book.state place ≡ true → seat_of p.slices place ≡ Some d → (named d → ⊥) → s < p.sectors d → Keeps (p.held d s) (q.held d s)

-- no disk is attached, and the slices of drives stay where they lie
pub record KeepsSlices (p q : Moment) : Type 0 where
  pub slices : q.slices ≡ p.slices
  pub names : q.names ≡ p.names
  pub ready : (name : List ℕ) → q.ready name ≡ p.ready name

-- contents mean an array as before an event
abbrev pub MeansBefore : Moment → Moment → Event → FlatArray → Image → Type 0
MeansBefore p q (replaced place name) a disks = MeansFormer p q place a disks
MeansBefore p q (declined place name fault) a disks = MeansFormer p q place a disks ⊎ MeansAt q a disks
MeansBefore p q event a disks = MeansAt q a disks

-- what an event that names an image leaves of the disks
abbrev pub KeepsNamed : Moment → Moment → Event → Type 0
KeepsNamed p q (replaced place name) = TakesImage p.linear p q place name
KeepsNamed p q (declined place name fault) = TakesImage p.linear p q place name
KeepsNamed p q event = Unit {0}

-- An event: what a stop inside it leaves means the array before it or after it, and one at its end the array after it. But where a drive
-- is to be replaced, the slices of drives stay where they lie, no disk is attached, and marks alone come to the state. Outside the slices
-- disks hold what they held, but for one that the event took. The clock and what disks hold are told where stops are.
pub record EventContract (Traced : Type 0) (stops : ℕ → Image → Type 0) (p q : Moment) (a : FlatArray) (event : Event) : Type 0 where
  pub later : Traced → p.clock ≤ q.clock
  -- where no disk is asked nothing changes, and no time passes
  pub still : calls_none event ≡ true → q ≡ p
  pub cause : HasCause p q event
  -- the volume lies on its arrays where it lay
  pub linear : q.linear ≡ p.linear
  pub disks : KeepsDisks p q
  pub held :
      Traced → (d s : ℕ) → d < p.disks → s < p.sectors d → (Takes q.names event d → ⊥) → ((v : List ℕ) → IsSliced p.slices d s v → ⊥)
      → Keeps (p.held d s) (q.held d s)
  pub named : Traced → takes_disk event ≡ true → KeepsNamed p q event
  -- a drive that is marked missing isn't written again, unless the line names its disk
  pub missing : Traced → KeepsMissing p q (Takes q.names event)
  pub slices : takes_disk event ≡ false → KeepsSlices p q
  pub marks : takes_disk event ≡ false → MarksFor p q event
  pub stands : KeepsStanding (KeepsBookIn event) (calls_in (line_of event)) p q
  -- an event that does no works of maintenance and replaces no drive changes nothing of the works that are left, but that members are lost
  pub works : works_on event ≡ false → KeepsWorks p.book q.book
  pub during :
      Traced → (k : ℕ) (i : Image) → p.clock < k → k ≤ q.clock → stops k i
      → MeansBefore p q event a i ⊎ MeansAt q (becomes a event) i
  pub ended : Traced → (i : Image) → stops q.clock i → MeansAt q (becomes a event) i

-- events in a row, from one moment to another
abbrev pub Timeline : Type 0 → (ℕ → Image → Type 0) → Moment → FlatArray → List Event → Moment → Type 0
Timeline Traced stops p a [] q = p ≡ q
Timeline Traced stops p a (event ∷ events) q =
    (at : Moment)
    × EventContract Traced stops p at a event
    × Timeline Traced stops at (becomes a event) events q

-- the moments at their ends
abbrev pub Steps : Moment → List Event → Moment → Type 0
Steps p [] q = p ≡ q
Steps p (event ∷ events) q = (at : Moment) × Steps at events q

abbrev pub steps_of :
    (Traced : Type 0) (stops : ℕ → Image → Type 0) (p : Moment) (a : FlatArray) (events : List Event) (q : Moment)
    → Timeline Traced stops p a events q → Steps p events q
steps_of Traced stops p a [] q line = line
steps_of Traced stops p a (event ∷ events) q line = (line.0, steps_of Traced stops line.0 (becomes a event) events q line.2)

-- A drive of a place is replaced by the disk of a name, which has its table: it was attached and taken in, from a cleaned pool where the place's drive wasn't missing.
abbrev pub TakesDrive : View → View → ℕ → List ℕ → Type 0
TakesDrive x y place name =
    ChangesDrive x y place name × ((d : ℕ) → IsNamed (moment_of y) name d → HasTable x y place d)
    × ((d : ℕ) → IsNamed (moment_of y) name d → EntersNamed x y place name d)

-- It isn't: no time passed, or the disk was attached, and not taken in though nothing had been against it.
abbrev pub LeavesDrive : View → View → ℕ → List ℕ → Type 0
LeavesDrive x y place name = ChangesDrive x y place name × (StaysStill x y ⊎ LeavesNamed x y place name)

-- what a line that names a disk does to the pool's drives
abbrev pub Changes : View → View → Event → Type 0
Changes x y (replaced place name) = TakesDrive x y place name
Changes x y (declined place name fault) = LeavesDrive x y place name
Changes x y event = Unit {0}

-- A line was answered on a pool by this text.
pub record LineContract (x y : View) (event : Event) (text : List ℕ) : Type 0 where
  pub continues : Continues x y
  pub still : calls_none event ≡ true → moment_of y ≡ moment_of x
  pub passes : takes_disk event ≡ false → CallFrame x y
  pub outside : takes_disk event ≡ true → KeepsOutside x.slices y.slices (Takes y.shelf.names event) x.shelf.told x.bay y.bay
  pub changes : takes_disk event ≡ true → Changes x y event
  pub raises : Raises (calls_in (line_of event)) x y
  pub keeps : KeepsBookIn event (book x) (book y)
  pub works : works_on event ≡ false → KeepsWorks (book x) (book y)
  pub cause : HasCause (moment_of x) (moment_of y) event
  pub marks : takes_disk event ≡ false → MarksFor (moment_of x) (moment_of y) event
  pub text_is : (a : FlatArray) → VolumeIs x a → text ≡ text_of a event
  -- whatever the volume holds, some array of its size is answered so
  pub reply : (a : FlatArray) × (a.size ≡ size_of x) × (text ≡ text_of a event)
  pub holds : (a : FlatArray) → VolumeIs x a → VolumeIs y (becomes a event)
  pub leaves :
      x.bay.traced → (a : FlatArray) → VolumeIs x a
      → LeavesNew x y (λ i. MeansBefore (moment_of x) (moment_of y) event a i ⊎ Means y (becomes a event) i)
  pub ends : x.bay.traced → (a : FlatArray) → VolumeIs x a → (i : Image) → y.bay.stops y.bay.clock i → Means y (becomes a event) i
