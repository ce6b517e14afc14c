-- The drive of a place is replaced by the disk of a name: why it is refused, and what the pool is after it.
use Rattle.std.specs.Prelude.{◌≡◌, ◌≢◌, ◌⊎◌, ◌↔◌, ℕ, ◌<◌, ◌≤◌, Bool, true, false, List, length, slice_get, Option, Some, None, option_map, Result, Ok, Err, nat_lt, if◌then◌else◌}
use Rattle.std.specs.Option.{option_map_or}
use Rattle.rack.specs.Values.{IsSingle, MayLeave, Values}
use Rattle.rack.specs.Seen.{Image, Rose}
use Rattle.flat_array.specs.Array.{FlatArray}
use Rattle.gpt_table.specs.declared.Table.{Table}
use Rattle.gpt_table.specs.declared.TableCopy.{TableCopy}
use Rattle.gpt_table.specs.Disk.{HoldsCopy, now_on}
use Rattle.gpt_table.specs.Plans.{IsOfTable}
use Rattle.array_image.specs.Places.{log_slice}
use Rattle.array_image.specs.States.{is_current}
use Rattle.pool_state.specs.declared.contents.Plan.TheVariants.{Replace}
use Rattle.pool_state.specs.declared.contents.Drive.{Drive}
use Rattle.pool_state.specs.declared.contents.State.{State}
use Rattle.slice_rack.specs.Slices.{Slices, disk_of, seat_of}
use Rattle.slice_rack.specs.Changes.{Seats}
use Rattle.slice_rack.specs.Runs.{IsSliced}
use Rattle.raid_laws.specs.Book.{OnlyMarksSince}
use Rattle.raid_laws.specs.Enlisting.{HoldsTable, enlisted, new_table, next_drive, with_drive}
use Rattle.raid_laws.specs.Moves.{KeepsArrays}
use Rattle.raid_laws.specs.NewDrive.{IsOfDrive as IsLaid, SeatsDrive, drive_table, joins}
use Rattle.raid_laws.specs.Truths.{KeepsTruths}
use Rattle.shr_base.specs.Units.{units_of}
use Rattle.pool.specs.declared.replacing.GrowFault.{GrowFault}
use Rattle.pool.specs.declared.replacing.GrowFault.TheVariants.{NoSuchDrive, Attach, Twice, Memory, NotWhole, Gone}
use Rattle.lvm_group.specs.Runs.{Linear}
use Rattle.rack.specs.Untouched.{KeepsDisk}
use Rattle.pool.specs.Continuing.{KeepsOutside, NoDisk}
use Rattle.pool.specs.Held.{KeepsHeld}
use Rattle.pool.specs.Moment.{DriveWentFrom, IsImage, IsNamed, Moment, moment_of, views_of}
use Rattle.pool.specs.Replacing.{IsAdmissible, refusal_of}
use Rattle.pool.specs.View.{View, book, contents_in, slices_shown, spent_by}
use Rattle.pool.specs.Volume.{Means, PicksLive, is_spent}

-- ---- refusals, by how the pool stands before and after

-- a place of the list whose drive is marked missing
abbrev pub is_vacant : State → ℕ → Bool
is_vacant s k = option_map_or (λ (d : Drive). d.missing) (slice_get s.drives.items k) false

-- the name is that of a disk whose place isn't missing
abbrev pub IsOfDrive : Moment → List ℕ → Type 0
IsOfDrive p name = (d : ℕ) × (k : ℕ) × IsNamed p name d × (seat_of p.slices k ≡ Some d) × (is_vacant p.book.state k ≡ false)

-- a disk's count of faults before a call: none where it wasn't attached
abbrev pub faults_before : Moment → ℕ → ℕ
faults_before p d = if nat_lt d p.disks then p.faults d else 0

-- It was looked at why a drive may not be taken in at a place, of so many: the place is one of these, and the name has a disk that isn't a current drive's.
pub record IsLookedAt (places place : ℕ) (result : Result (Unit {0}) GrowFault) : Type 0 where
  pub listed : place < places
  pub attached : result ≢ Err Attach
  pub had : result ≢ Err Memory
  pub other : result ≢ Err Twice

-- by what the book says of a disk: the first refusal, or none of these
abbrev pub IsAnswer : Option GrowFault → Result (Unit {0}) GrowFault → Type 0
IsAnswer (Some fault) result = result ≡ Err fault
IsAnswer None result = (result ≡ Ok tt) ⊎ ((result ≡ Err Gone) ⊎ (result ≡ Err NotWhole))

-- a drive that was current is marked missing
abbrev pub HasMarked : Moment → Moment → Type 0
HasMarked p q = (k : ℕ) × (is_current p.book.state k ≡ true) × (is_current q.book.state k ≡ false)

-- one of another place is
abbrev pub HasMarkedOther : Moment → Moment → ℕ → Type 0
HasMarkedOther p q place = (k : ℕ) × (k ≢ place) × (is_current p.book.state k ≡ true) × (is_current q.book.state k ≡ false)

-- Each refusal of a drive for a place, of so many, has its cause, in the order in which they are looked for. `refusal` is the first one by the book, of a disk of so many
-- sectors; `Marked` says that another drive was found gone and is marked.
pub record HasTakingCause (places place : ℕ) (refusal : ℕ → Option GrowFault) (Marked : Type 0) (p q : Moment) (name : List ℕ) (result : Result (Unit {0}) GrowFault) : Type 0 where
  pub missing : (result ≡ Err NoSuchDrive) ↔ (places ≤ place)
  pub attach : result ≡ Err Attach → Rose p.unattached q.unattached
  -- an image that can't be attached, or not for want of memory, comes as no disk
  pub none : (result ≡ Err Attach) ⊎ (result ≡ Err Memory) → q.disks ≡ p.disks
  -- a name that is attached is used
  pub used : (d : ℕ) → IsNamed p name d → (result ≢ Err Attach) × (result ≢ Err Memory)
  pub twice : (result ≡ Err Twice) ↔ ((place < places) × IsOfDrive p name)
  pub named : IsLookedAt places place result → (d : ℕ) × IsNamed q name d
  pub answer : IsLookedAt places place result → (d : ℕ) → IsNamed q name d → IsAnswer (refusal (q.sectors d)) result
  pub gone : result ≡ Err Gone → (d : ℕ) → IsNamed q name d → Rose (faults_before p d) (q.faults d)
  pub not_whole : result ≡ Err NotWhole → (d : ℕ) → IsNamed q name d → (refusal (q.sectors d) ≡ Some NotWhole) ⊎ Marked

-- of one that replaces the drive of a place in the list
abbrev pub HasGrowCause : Linear → (p q : Moment) → (place : ℕ) → List ℕ → Result (Unit {0}) GrowFault → Type 0
HasGrowCause l p q place name result =
    HasTakingCause (length p.book.state.drives.items) place (refusal_of l p.book place) (HasMarkedOther p q place) p q name result

-- ---- what is read of contents

-- contents mean an array by the slices of these tables, in the sectors that aren't spent at a moment
abbrev pub MeansBy : Slices → Moment → FlatArray → Image → Type 0
MeansBy t q a i = PicksLive (spent_by q.linear q.book) a (contents_in t q.linear i)

-- by the slices of a pool in which a place, whose drive is missing, has no disk
abbrev pub MeansWithout : Moment → Moment → ℕ → FlatArray → Image → Type 0
MeansWithout p q place a i = (t : Slices) × Seats p.slices t place None × MeansBy t q a i

-- By the slices of the pool as it was: as they lay, where the place's drive wasn't missing then, or without the place's disk, where it was, or was found gone.
abbrev pub MeansFormer : Moment → Moment → ℕ → FlatArray → Image → Type 0
MeansFormer p q place a i =
    ((is_current p.book.state place ≡ true) × MeansBy p.slices q a i)
    ⊎ (((is_current p.book.state place ≡ false) ⊎ DriveWentFrom p q place) × MeansWithout p q place a i)

-- each stop since has left contents with this property
abbrev pub LeavesNew : View → View → (Image → Type 0) → Type 0
LeavesNew x y P = (k : ℕ) (i : Image) → x.bay.clock < k → k ≤ y.bay.clock → y.bay.stops k i → P i

-- ---- the call

-- the faults of a place's drive rose, by where its slices lie afterwards
abbrev pub DriveWentSince : Moment → Moment → ℕ → Type 0
DriveWentSince p q k = Rose (faults_before p (disk_of q.slices (log_slice k))) (q.faults (disk_of q.slices (log_slice k)))

-- The drive isn't replaced. Marks alone come to the book, each of a drive that refused a call. Where the new disk itself refused one, nobody but the place
-- is marked, and the book is as it was where the place's drive was missing; and where nobody is marked and it refused none, nothing is called, and disks hold
-- what they held. The place has the disk that it had, or it is missing and has none.
pub record IsDeclined (p q : Moment) (place : ℕ) (fault : GrowFault) : Type 0 where
  pub marks : OnlyMarksSince p.book.state q.book.state
  pub plan : q.book.state.plan ≡ p.book.state.plan
  pub arrays : KeepsArrays p.book q.book
  pub cause : (k : ℕ) → is_current p.book.state k ≡ true → is_current q.book.state k ≡ false → DriveWentFrom p q k
  pub slices :
      (q.slices ≡ p.slices)
      ⊎ (((fault ≡ Gone) ⊎ (fault ≡ NotWhole)) × (is_current q.book.state place ≡ false) × Seats p.slices q.slices place None)
  pub unmarked : fault ≡ Gone → is_current p.book.state place ≡ false → q.book ≡ p.book
  pub others : fault ≡ Gone → (k : ℕ) → k ≢ place → is_current p.book.state k ≡ true → is_current q.book.state k ≡ true
  pub quiet :
      fault ≢ Gone → (HasMarked p q → ⊥)
      → (q.book ≡ p.book) × (q.slices ≡ p.slices) × (q.clock ≡ p.clock) × ((d : ℕ) → d < p.disks → (s : ℕ) → q.held d s ≡ p.held d s)

-- The drive is replaced by this disk: one of so many units is in the list, its place has the disk, and it is current but where it refused a
-- call since.
pub record IsReplaced (p q : Moment) (place disk : ℕ) : Type 0 where
  pub units : ℕ
  pub units_is : option_map (λ d. d.units) (slice_get p.book.state.drives.items place) ≡ Some units
  pub enough : units_of (q.sectors disk) p.book.state.extent ≡ units
  pub marks : OnlyMarksSince (enlisted place units (Replace place) p.book.state) q.book.state
  pub plan : q.book.state.plan ≡ Replace place
  pub cause :
      (k : ℕ) → is_current (enlisted place units (Replace place) p.book.state) k ≡ true → is_current q.book.state k ≡ false → DriveWentSince p q k
  pub seats : SeatsDrive (views_of p.book) place disk (q.sectors disk) p.slices q.slices
  -- its members are to be rebuilt from their start, and all others are as they were
  pub arrays : KeepsArrays (with_drive place units (Replace place) (joins (views_of p.book) place (q.sectors disk)) p.book) q.book

-- the table of the new drive
abbrev pub table_for : View → View → (place disk : ℕ) → Table
table_for x y place disk = drive_table (next_drive (book x).state).0 (views_of (book x)) place (y.bay.sectors disk) (book x).state.made

-- Contents mean an array by the slices of the pool with the new drive, which has its table in them.
abbrev pub MeansWith : View → View → (place disk : ℕ) → FlatArray → Image → Type 0
MeansWith x y place disk a i = Means y a i × ((s : ℕ) → s < a.size → is_spent y s ≡ false → HoldsTable disk (table_for x y place disk) i)

-- Where the disks are told, the new one has its table, durably.
pub record HasTable (x y : View) (place disk : ℕ) : Type 0 where
  pub copies :
      x.shelf.told → ((d : ℕ) → d < x.bay.disks → x.bay.told d) → (copy : TableCopy)
      → HoldsCopy copy (table_for x y place disk) (now_on y.bay disk)
  pub durable :
      x.shelf.told → ((d : ℕ) → d < x.bay.disks → x.bay.told d) → (s : ℕ) → IsOfTable (y.bay.sectors disk) s → IsSingle (y.bay.held disk s)

-- A value that is laid in a sector of a new drive: zeros for the state, the first gate, or what the table of the pool's next drive has there. Nothing is against
-- taking the disk in, which has the units of the place's drive, and whose name is that of no drive.
pub record IsLaidOn (l : Linear) (p : Moment) (place : ℕ) (name : List ℕ) (sectors d s : ℕ) (v : List ℕ) : Type 0 where
  pub admitted : IsAdmissible l p.book place sectors
  pub other : IsOfDrive p name → ⊥
  pub value : IsLaid d (new_table p.book.state (views_of p.book) place sectors) d s v

-- Outside the slices the disk of a name may be left with what its image held, and with what is laid on a new drive.
abbrev pub KeepsImage : Linear → Moment → Moment → ℕ → List ℕ → Type 0
KeepsImage l p q place name =
    (d : ℕ) → IsNamed q name d
    → (held : ℕ → Values)
    × IsImage p name (q.sectors d) held
    × ((s : ℕ) (v : List ℕ) → s < q.sectors d → ((u : List ℕ) → IsSliced q.slices d s u → ⊥) → MayLeave (q.held d s) v
    → MayLeave (held s) v ⊎ IsLaidOn l p place name (q.sectors d) d s v)

-- The name is of one disk afterwards: no other disk comes, and none gets a name.
pub record NamesDisk (p q : Moment) (name : List ℕ) : Type 0 where
  pub there : (d : ℕ) → IsNamed q name d → d < q.disks
  pub one : (d e : ℕ) → IsNamed q name d → IsNamed q name e → d ≡ e
  pub came : (d : ℕ) → p.disks ≤ d → d < q.disks → IsNamed q name d
  pub old : (d : ℕ) → d < p.disks → IsNamed q name d → IsNamed p name d
  pub others : (d : ℕ) (n : List ℕ) → IsNamed q n d → IsNamed p n d ⊎ (n ≡ name)

-- What a line that names an image leaves of the disks: that of the name holds what the image held, or what is laid on a new drive.
pub record TakesImage (l : Linear) (p q : Moment) (place : ℕ) (name : List ℕ) : Type 0 where
  pub names : NamesDisk p q name
  pub image : KeepsImage l p q place name

-- What a line that names a disk does to the pool's drives: the name is of one disk, no other one comes, the disks of places whose drives were missing aren't
-- written, unless one is the named one, and slices move only where nothing was against it and the units are the same. A sector that isn't spent wasn't before.
pub record ChangesDrive (x y : View) (place : ℕ) (name : List ℕ) : Type 0 where
  pub names : NamesDisk (moment_of x) (moment_of y) name
  pub retired :
      (k d : ℕ) → k < length (book x).state.drives.items → is_current (book x).state k ≡ false → seat_of x.slices k ≡ Some d → (IsNamed (moment_of y) name d → ⊥)
      → KeepsDisk x.shelf.told x.bay y.bay d
  pub admitted :
      (y.slices ≡ x.slices) ⊎ ((d : ℕ) × IsNamed (moment_of y) name d × IsAdmissible x.linear (book x) place (y.bay.sectors d))
  -- where slices moved none is left on the disk that the place had, unless it is the named one
  pub bare :
      (d : ℕ) → seat_of x.slices place ≡ Some d → (IsNamed (moment_of y) name d → ⊥)
      → (y.slices ≡ x.slices) ⊎ ((s : ℕ) (v : List ℕ) → IsSliced y.slices d s v → ⊥)
  -- a drive's own disk isn't written
  pub current : IsOfDrive (moment_of x) name → KeepsOutside x.slices y.slices NoDisk x.shelf.told x.bay y.bay
  pub image : x.shelf.told → ((d : ℕ) → d < x.bay.disks → x.bay.told d) → KeepsImage x.linear (moment_of x) (moment_of y) place name
  pub spent : (s : ℕ) → is_spent y s ≡ false → is_spent x s ≡ false
  -- superblocks that said an array's truth do so, and sectors of the arrays keep their values, also those that are none of the volume's
  pub truths : x.shelf.told → ((d : ℕ) → d < x.bay.disks → x.bay.told d) → KeepsTruths (book x) (book y) (slices_shown x) (slices_shown y)
  pub held : x.shelf.told → ((d : ℕ) → d < x.bay.disks → x.bay.told d) → KeepsHeld (book x) (book y) (slices_shown x) (slices_shown y)
