-- The pool by which a run goes as lines take drives in, and what is to be known of the images that they name, by what these held before.
use Rattle.std.specs.Prelude.{◌≡◌, ◌≢◌, ◌⊎◌, ℕ, ◌+◌, ◌<◌, false, true, if◌then◌else◌, List, [], ◌∷◌, length, slice_get, Option, Some, Ok, unwrap_or}
use Rattle.std.specs.Option.{option_map_or}
use Rattle.rack.specs.Seen.{RackView}
use Rattle.rack.specs.Values.{MayLeave, Values}
use Rattle.rack.specs.Shelf.{Waiting}
use Rattle.slice_rack.specs.Slices.{IsOrderly, Slices, seat_of}
use Rattle.gpt_table.specs.Disk.{Contents}
use Rattle.pool_state.specs.declared.contents.Copied.{Copied}
use Rattle.pool_state.specs.declared.contents.Plan.TheVariants.{Replace as Replacing}
use Rattle.pool_state.specs.declared.contents.State.{State}
use Rattle.pool_state.specs.Sector.{decoded}
use Rattle.array_image.specs.Places.{state_sector, super_sector}
use Rattle.array_image.specs.States.{id_of, is_current}
use Rattle.array_core.specs.TruthHeld.{HoldTruth}
use Rattle.lvm_group.specs.Runs.{sectors_in}
use Rattle.raid_laws.specs.Enlisting.{enlisted}
use Rattle.pool_image.specs.Disks.{Disks, Identity, identities_of}
use Rattle.pool_image.specs.Drives.{Found, first_of}
use Rattle.pool_image.specs.Meaning.{is_member}
use Rattle.pool_model.specs.Alone.{NoImpostor, HoldTabled, IsStranger, IsUngiven}
use Rattle.pool_model.specs.Grouped.{HoldGroup}
use Rattle.pool_model.specs.InService.{RunInvariant}
use Rattle.pool_model.specs.Left.{HasNoSuper}
use Rattle.pool_model.specs.Stopped.{HoldTables}
use Rattle.pool_model.specs.Taken.{AreDistinct, AreSerial, LacksDrive, attached, taken}
use Rattle.pool.specs.declared.replacing.GrowFault.{GrowFault}
use Rattle.pool.specs.declared.replacing.GrowFault.TheVariants.{Gone}
use Rattle.pool.specs.Moment.{IsImage, IsNamed, Moment}
use Rattle.pool.specs.Replaced.{HasMarked}
use Rattle.pool.specs.View.{View, book, slices_shown, spent_by}
use Rattle.pool.specs.Volume.{is_spent, size_of}
use Rattle.shr_tool.specs.Events.{Event, any_takes, looks_at}
use Rattle.shr_tool.specs.Events.Event.{replaced, declined}
use Rattle.shr_tool.specs.Timeline.{Steps}

-- no drive was to be replaced, or a sector of the volume can be had
abbrev pub IsServed : Moment → List Event → Type 0
IsServed q events = (any_takes events ≡ false) ⊎ ((s : ℕ) × (s < sectors_in q.linear) × (spent_by q.linear q.book s ≡ false))

-- ---- the pool

-- the disks at a moment
abbrev pub disks_at : Moment → Disks
disks_at p = record { count = p.disks; sectors = p.sectors }

-- the disk of a place
abbrev pub disk_in : Moment → ℕ → ℕ
disk_in p place = unwrap_or (seat_of p.slices place) 0

-- the units of its drive
abbrev pub units_in : Moment → ℕ → ℕ
units_in p place = option_map_or (λ drive. drive.units) (slice_get p.book.state.drives.items place) 0

-- The pool f after an event from one moment to another: where a drive was replaced the place has the new disk, and where one was to be, a disk
-- may have been attached.
abbrev pub pool_after : Found → Moment → Moment → Event → Found
pool_after f p q (replaced place name) = taken f (disks_at q) place (disk_in q place) (enlisted place (units_in p place) (Replacing place) p.book.state)
pool_after f p q (declined place name fault) = if looks_at fault then attached f (disks_at q) else f
pool_after f p q event = f

-- after events in a row
abbrev pub pool_by : Found → (p : Moment) → (events : List Event) → (q : Moment) → Steps p events q → Found
pool_by f p [] q steps = f
pool_by f p (event ∷ events) q steps = pool_by (pool_after f p steps.0 event) steps.0 events q steps.1

-- ---- the disks that lines name

-- No superblock of an array stands on an image where the slice of one would begin that a place is no member of.
abbrev pub IsAlone : Found → (place sectors : ℕ) → (ℕ → Values) → Type 0
IsAlone f place sectors held =
    (n first : ℕ) → n < f.state.made → is_member f n place ≡ false → first_of f n ≡ Some first → first + super_sector < sectors
    → (v : List ℕ) → MayLeave (held (first + super_sector)) v → HasNoSuper f.state.pool.0 n v

-- An image that is taken in, by what it holds before: no superblock stands on it where the place is no member. The ids of the serials differ that the
-- pool has given, and the next one's.
pub record IsFitDrive (f : Found) (p : Moment) (place : ℕ) (name : List ℕ) : Type 0 where
  pub distinct : AreDistinct p.book.state.pool.0 p.book.state.serial
  pub alone : (sectors : ℕ) (held : ℕ → Values) → IsImage p name sectors held → IsAlone f place sectors held

-- One that isn't, and waited: it says no state, or one that is earlier than the pool's.
abbrev pub IsFitDisk : Found → Moment → List ℕ → Type 0
IsFitDisk f p name =
    ((d : ℕ) → IsNamed p name d → ⊥) → (w : Waiting) → p.ready name ≡ Some w → state_sector < w.sectors
    → (copy : Copied) → decoded (w.contents state_sector) ≡ Ok copy → copy.state.epoch < f.state.epoch

-- what is to be known of the image that a line names
abbrev pub IsFitFor : Found → Moment → Event → Type 0
IsFitFor f p (replaced place name) = IsFitDrive f p place name
IsFitFor f p (declined place name fault) = looks_at fault ≡ true → IsFitDisk f p name
IsFitFor f p event = Unit {0}

-- of those that lines in a row name: nothing, where no drive was to be replaced
abbrev pub AreFit : Found → (p : Moment) → (events : List Event) → (q : Moment) → Steps p events q → Type 0
AreFit f p [] q steps = Unit {0}
AreFit f p (event ∷ events) q steps = IsFitFor f p event × AreFit (pool_after f p steps.0 event) steps.0 events q steps.1

-- ---- that it stands alone

-- what a disk of so many sectors says
abbrev pub said_by : (sectors : ℕ) → Contents → Identity
said_by sectors contents = identities_of (record { count = 1; sectors = λ d. sectors }) (λ d. contents) 0

-- How a pool stands alone: a serial before which ids are given, and the names of images that are left out.
pub record Lone : Type 0 where
  pub bound : ℕ
  pub out : List (List ℕ)

abbrev pub none_out : ℕ → Lone
none_out bound = record { bound = bound; out = [] }

-- a disk of one of these names, by the names of disks
abbrev pub IsOut : Lone → (names : List (List ℕ)) → ℕ → Type 0
IsOut l names d = (k : ℕ) × (name : List ℕ) × (slice_get l.out k ≡ Some name) × (slice_get names d ≡ Some name)

-- A line was declined that laid nothing on the disk that it named: neither this disk nor the drive of another place was found gone in it. If the disk came
-- with the line it is a stranger to the pool by what its image said.
pub record LaysNothing (f : Found) (bound : ℕ) (p q : Moment) (name : List ℕ) (fault : GrowFault) : Type 0 where
  pub stayed : fault ≢ Gone
  pub unmarked : HasMarked p q → ⊥
  pub stranger :
      ((d : ℕ) → IsNamed p name d → ⊥) → (w : Waiting) → p.ready name ≡ Some w
      → (c : Contents) → ((s : ℕ) → s < w.sectors → c s ≡ w.contents s) → IsStranger f bound (said_by w.sectors c)

-- What is to be known of a line so that a pool stands alone on its disks after it, where it did so before: of one that was declined the image is left out, or it
-- laid nothing on its disk.
abbrev pub IsLoneFor : Found → Lone → (p q : Moment) → Event → Type 0
IsLoneFor f l p q (declined place name fault) = looks_at fault ≡ true → ((k : ℕ) × (slice_get l.out k ≡ Some name)) ⊎ LaysNothing f l.bound p q name fault
IsLoneFor f l p q event = Unit {0}

-- of lines in a row
abbrev pub AreLone : Found → Lone → (p : Moment) → (events : List Event) → (q : Moment) → Steps p events q → Type 0
AreLone f l p [] q steps = Unit {0}
AreLone f l p (event ∷ events) q steps = IsLoneFor f l p steps.0 event × AreLone (pool_after f p steps.0 event) l steps.0 events q steps.1

-- The ids differ that a pool gives before its serial is the bound, and disks that are no drives of it, and aren't left out by their names, have none that it
-- gives later.
pub record AreUngiven (f : Found) (l : Lone) (names : List (List ℕ)) : Type 0 where
  pub distinct : AreDistinct f.state.pool.0 l.bound
  pub others :
      (d : ℕ) → ((p : ℕ) → f.seats p ≡ Some d → ⊥) → (IsOut l names d → ⊥) → d < f.disks.count → IsUngiven f.state l.bound (f.identities d)

-- ---- how a run goes by a pool

-- A copy is the own one of a place's drive: of a state of the pool, and it names this drive.
pub record IsOwnCopy (s : State) (place : ℕ) (copy : Copied) : Type 0 where
  pub pool : copy.state.pool ≡ s.pool
  pub drive : id_of copy.state copy.own ≡ id_of s place

-- Whatever copy of a state a drive of the pool may be left with is its own, by the state s also where it is marked missing. But nothing is said of disks of `Out`
-- whose drives are missing.
abbrev pub HoldOwn : Found → (Out : ℕ → Type 0) → State → RackView → Type 0
HoldOwn f Out s y =
    (p d : ℕ) (u : List ℕ) (copy : Copied) → f.seats p ≡ Some d → (is_current s p ≡ true) ⊎ (Out d → ⊥) → MayLeave (y.held d state_sector) u → decoded u ≡ Ok copy
    → IsOwnCopy f.state p copy

-- A pool stands alone on its disks: but for those that are left out none but its drives stands for a place of it, and none has an id that it gives before its
-- serial is the bound. Where a sector of the volume can be had, its drives have their own copies.
pub record StandsLone (l : Lone) (f : Found) (t : Slices) (x : View) : Type 0 where
  pub alone : NoImpostor f l.bound (IsOut l x.shelf.names) (book x).state t x.bay
  pub distinct : AreDistinct f.state.pool.0 l.bound
  pub own : (s : ℕ) → s < size_of x → is_spent x s ≡ false → HoldOwn f (IsOut l x.shelf.names) (book x).state x.bay

-- A run begins on arrays that are all ready for the volume, and whose superblocks say their truths, durably. Where `Group` holds they hold the volume's group.
pub record BeginsOn (Group : Type 0) (x : View) : Type 0 where
  pub joined : (book x).state.joined ≡ (book x).state.made
  pub truths : (n : ℕ) → n < (book x).state.made → HoldTruth ((book x).arrays n) (slices_shown x)
  pub group : Group → HoldGroup (book x) x.linear (slices_shown x)

-- A pool by which a run goes: its slices are those of the run, unless a place whose drive is missing has given its disk up since. The run's slices don't
-- overlap. Where `Landing` holds the partition tables of the pool's drives have the members' slices, whatever the disks may be left with outside them, and
-- where it is `lone` the pool stands alone on its disks.
pub record GoesBy (Landing : Type 0) (lone : Option Lone) (f : Found) (x : View) : Type 0 where
  pub tables : Slices
  pub service : RunInvariant f tables (book x) x.bay
  pub vacant :
      (x.slices ≡ tables) ⊎ ((place : ℕ) × (place < length (book x).state.drives.items) × LacksDrive f tables x.slices (book x) place x.bay)
  pub lasting : x.bay.lasting
  pub arrays : x.linear.arrays ≡ f.state.made
  pub orderly : IsOrderly x.slices
  pub laid : Landing → HoldTables f tables (book x).state x.bay
  -- and each of its current drives has its table
  pub tabled : HoldTabled f (book x).state tables x.bay
  pub alone : (l : Lone) → lone ≡ Some l → StandsLone l f tables x

-- The run goes on by another pool, h in place of f, which has drives with ids of serials where f has.
pub record GoesOn (Landing : Type 0) (lone : Option Lone) (f h : Found) (x : View) : Type 0 where
  pub goes : GoesBy Landing lone h x
  pub serials : AreSerial f.state → AreSerial h.state
