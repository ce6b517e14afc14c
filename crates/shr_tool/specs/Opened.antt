-- How the opening of a pool on attached disks, and the task on it, came out.
use Rattle.std.specs.Prelude.{◌≡◌, ◌≢◌, ◌⊎◌, ◌&&◌, ◌+◌, ◌<◌, ◌≤◌, ℕ, true, is_some, List, [], ◌∷◌, Some}
use Rattle.rack.specs.Seen.{Image, RackView}
use Rattle.rack.specs.Moments.{Leaves}
use Rattle.rack.specs.Sequences.{OnlyReads}
use Rattle.flat_array.specs.Array.{FlatArray, fresh}
use Rattle.md_super.specs.declared.superblock.Super.{Super}
use Rattle.array_image.specs.States.{is_current}
use Rattle.lvm_group.specs.Runs.{data_start}
use Rattle.slice_rack.specs.Sliced.{slices_of}
use Rattle.raid_laws.specs.Book.{OnlyMarksSince}
use Rattle.raid_laws.specs.Raid.{IsTracked}
use Rattle.pool_check.specs.Settling.{IsSettled}
use Rattle.pool_image.specs.Alike.{MeansTheSame}
use Rattle.pool_image.specs.Disks.{disks_of}
use Rattle.pool_image.specs.Drives.{Found}
use Rattle.pool_image.specs.Meaning.{Volume, meaning, truth_of}
use Rattle.pool_scan.specs.Scanning.{IsUnfaulted, now_in}
use Rattle.pool_rest.specs.Resting.{WritesDrives}
use Rattle.assembler.specs.declared.refusal.Refusal.{Refusal}
use Rattle.assembler.specs.declared.refusal.Refusal.TheVariants.{BadVolume, Memory}
use Rattle.assembler.specs.Causes.{HasRefusalCause}
use Rattle.assembler_laws.specs.Holding.{IsArrayOf}
use Rattle.assembler_laws.specs.Marking.{MarksDrives}
use Rattle.assembler_laws.specs.Raising.{most_opening}
use Rattle.assembler.specs.Refusing.{is_early}
use Rattle.pool_model.specs.Grouped.{HaveOwnAreas, HoldGroup, IsVolumeOf}
use Rattle.pool_model.specs.Left.{NoStraySuperblock, AreElsewhere, IsPickOutsideSlices}
use Rattle.pool_model.specs.Pools.{AreSlicesOf}
use Rattle.pool_model.specs.Stopped.{HaveTables}
use Rattle.assembler_laws.specs.Moments.{SaysVolume}
use Rattle.assembler.specs.Sound.{HaveAgreed, HaveGatesUpTo, HoldSound, IsMeantRefusal, KeepsPool, MayStop, SayTruths, StopsHold, StopsMean, TargetsLand}
use Rattle.assembler.specs.Volume.{AllLive}
use Rattle.assembler.specs.Wanting.{HasUsedUp, LeavesPool}
use Rattle.assembler_laws.specs.Writing.{WritesPool}
use Rattle.pool.specs.Keeping.{HasMarkedSeats}
use Rattle.shr_script.specs.Reply.{refused_line}
use Rattle.shr_tool.specs.declared.opening.Task.{Task}
use Rattle.shr_tool.specs.declared.status.Status.{Status}
use Rattle.rack.specs.Shelf.{Shelf}
use Rattle.shr_tool.specs.Outcome.{IsRunOn, KeepsNames}
use Rattle.shr_tool.specs.Refusing.{refusal_words, refusal_status}
use Rattle.shr_tool.specs.Saying.{Says}
use Rattle.shr_tool.specs.Tasks.{TaskOutcome}
use Rattle.pool.specs.Moment.{Moment}
use Rattle.shr_tool.specs.Timeline.{MeansAt}

-- The pool of attached disks can't be opened, and why has its cause in what was read of them. Until its drives have passed their checks nothing is
-- written but the pending record, on drives of the pool; disks that hold a sound pool, and refuse no call, are refused as they mean, and
-- mean afterwards what they meant, or, where an array's part of the volume group is bad, hold the arrays that they held and are refused as they were. After
-- want of memory they do one of these, unless numbers are used up.
pub record NotOpened {R : Type 0} (seen : R → RackView) (runs : R → R → Type 0) (bay after : R) (out out' : List ℕ) (status : Status) : Type 0 where
  pub why : Refusal
  pub says : Says (refusal_status why) (refused_line (refusal_words why)) out out' status
  pub kept : runs bay after
  pub early : is_early why ≡ true → OnlyReads (seen bay) (seen after) ⊎ WritesDrives (seen bay) (seen after)
  pub written : OnlyReads (seen bay) (seen after) ⊎ (WritesDrives (seen bay) (seen after) ⊎ WritesPool seen runs bay after)
  pub exact : (f : Found) → HoldSound (seen bay) f → IsUnfaulted (seen bay) (seen after) → why ≢ Memory → IsMeantRefusal (seen bay) why
  pub cause : HasRefusalCause seen runs bay after why
  pub unmoved :
      (f : Found) → HoldSound (seen bay) f → IsUnfaulted (seen bay) (seen after) → is_early why ≡ true
      → MeansTheSame (disks_of (seen bay)) (now_in (seen bay)) (now_in (seen after))
  pub still :
      (f : Found) → HoldSound (seen bay) f → IsUnfaulted (seen bay) (seen after) → (array : ℕ) → why ≡ BadVolume array
      → KeepsPool (seen bay) (seen after) f
  pub wanting : (f : Found) → HoldSound (seen bay) f → IsUnfaulted (seen bay) (seen after) → why ≡ Memory → LeavesPool seen runs bay after f
  -- what a stop inside the opening leaves holds the sound pool still that the disks had, so that it may be opened again, unless numbers are used up
  pub stops : (f : Found) → HoldSound (seen bay) f → IsUnfaulted (seen bay) (seen after) → StopsHold (seen bay) (seen after) f 0 ⊎ HasUsedUp seen runs bay after

-- A pool was opened as its disks had it: its volume is that of the group of what they held, over the slices of its drives; marks alone
-- have come to its state. Each of the volume's arrays is told, and no sector of these is spent. `y` is what the disks show then.
pub record IsOpenedAs (f : Found) (y : RackView) (from : Moment) : Type 0 where
  pub lies : IsVolumeOf f from.linear
  pub slices : AreSlicesOf f from.slices
  pub after : OnlyMarksSince f.state from.book.state
  -- a plan goes on that had begun
  pub plan : from.book.state.plan ≡ f.state.plan
  pub told : (n : ℕ) → n < f.state.joined → IsTracked from.book (slices_of from.slices y) n
  -- each is the array of the pool's superblocks, with the rows to resync that they leave
  pub arrays : (n : ℕ) (t : Super) → n < f.state.joined → truth_of f n ≡ Some t → IsArrayOf f n t (from.book.arrays n)
  pub live : AllLive from.book
  -- where all arrays are ready for the volume, and have the pool's metadata areas, they hold its group, whatever they may be left with
  pub group : f.state.joined ≡ f.state.made → HaveOwnAreas f → HoldGroup from.book from.linear (slices_of from.slices y)
  -- outside the slices the disks have each drive's table, and other disks say what they said
  pub elsewhere : (i : Image) → IsPickOutsideSlices from.slices y i → AreElsewhere f i
  -- where targets land in the pool's slices a replay finds these by the drives' tables
  pub landing : TargetsLand f → HaveTables f
  -- just those drives are marked missing that were, or that have no disk
  pub marks : (p : ℕ) → is_current from.book.state p ≡ (is_current f.state p && is_some (f.seats p))
  -- and the numbers that end have risen by a bounded number: the epoch, and the events of each array's superblocks
  pub epoch : from.book.state.epoch ≤ f.state.epoch + most_opening
  pub events : (n : ℕ) (t : Super) → n < f.state.joined → truth_of f n ≡ Some t → (from.book.arrays n).truth.events ≤ t.events + most_opening

-- The array that disks meant when a pool was opened on them: they held a sound pool, and none refused a call. `opened` is what they
-- show after the opening.
pub record IsMeant (x opened : RackView) (a : FlatArray) : Type 0 where
  pub pool : Found
  pub sound : HoldSound x pool
  pub unfaulted : IsUnfaulted x opened
  pub volume : Volume
  pub meant : meaning (disks_of x) (now_in x) ≡ Some (volume ∷ [])
  pub array : a ≡ fresh volume.sectors volume.contents

-- The pool of attached disks was opened, the task done on it, and the pool ended. `opened` is the bay after the opening.
pub record OpenedOn {R : Type 0} (seen : R → RackView) (shelf : R → Shelf) (runs : R → R → Type 0) (bay after : R) (task : Task) (text rest out out' : List ℕ) (status : Status) : Type 0 where
  pub opened : R
  pub kept : runs bay opened
  pub names : KeepsNames (shelf opened) (shelf after)
  -- in the opening drives alone are written: in their log slices, in the arrays' part, and in their partition tables
  pub drives : WritesPool seen runs bay opened
  pub from : Moment
  pub clock : from.clock ≡ (seen opened).clock
  pub faults : (d : ℕ) → from.faults d ≡ (seen opened).faults d
  pub disks : from.disks ≡ (seen opened).disks
  pub sectors : (d : ℕ) → from.sectors d ≡ (seen opened).sectors d
  pub held : (d s : ℕ) → from.held d s ≡ (seen opened).held d s
  pub named : from.names ≡ (shelf opened).names
  -- and what waited before it waits still
  pub waiting : (name : List ℕ) → from.ready name ≡ (shelf bay).ready name
  pub unattached : from.unattached ≡ (shelf opened).faults
  -- just those members of its arrays are missing whose drives are marked
  pub seated : HasMarkedSeats from.book
  -- and in the opening drives are marked only where they have no disk, or that refused a call
  pub caused : MarksDrives seen runs bay opened from.book.state
  -- it is opened as disks have it that held a sound pool and refused no call
  pub meant : (f : Found) → HoldSound (seen bay) f → IsUnfaulted (seen bay) (seen opened) → IsOpenedAs f (seen opened) from
  -- the log's number has risen by a bounded number above those of the gates that the pool's drives had
  pub number :
      (f : Found) → HoldSound (seen bay) f → IsUnfaulted (seen bay) (seen opened) → (most : ℕ) → HaveGatesUpTo (seen bay) f most
      → from.book.number ≤ most + most_opening
  -- then both copies of each drive's partition table are the table that its disk had, durably
  pub tables :
      (f : Found) → HoldSound (seen bay) f → IsUnfaulted (seen bay) (seen opened) → (p d : ℕ) → f.seats p ≡ Some d → IsSettled (seen bay) (seen opened) d
  -- and the superblocks of each array that is ready for the volume agree, durably
  pub agreed :
      (f : Found) → HoldSound (seen bay) f → IsUnfaulted (seen bay) (seen opened) → HaveAgreed f from.book.state (slices_of from.slices (seen opened))
  -- and say its truth
  pub truths :
      (f : Found) → HoldSound (seen bay) f → IsUnfaulted (seen bay) (seen opened) → SayTruths f from.book (slices_of from.slices (seen opened))
  -- what a stop inside the opening leaves means the array that the disks meant
  pub moments :
      (a : FlatArray) → (meant : IsMeant (seen bay) (seen opened) a) → MayStop (seen bay) meant.pool → (seen bay).traced
      → Leaves (seen bay) (seen opened) (MeansAt from a)
  -- and says its volume, by the sizes of the arrays, where these all are ready for it and have the pool's metadata areas
  pub says :
      (f : Found) → HoldSound (seen bay) f → IsUnfaulted (seen bay) (seen opened) → f.state.joined ≡ f.state.made → HaveOwnAreas f
      → MayStop (seen bay) f → (seen bay).traced → Leaves (seen bay) (seen opened) (SaysVolume from.book from.slices from.linear)
  -- And it holds the sound pool still that the disks had, so that a run which is killed inside its opening may be opened again: by its state or one to which
  -- just marks of places have come that have no disk, with its plan, and the same disks for its places. Its arrays hold what they held from their first
  -- extents on, and members count as far as they did.
  pub stops :
      (f : Found) → HoldSound (seen bay) f → IsUnfaulted (seen bay) (seen opened) → StopsHold (seen bay) (seen opened) f data_start
  -- A later opening of it doesn't refuse it, and means the run's volume again, with what its arrays held, so that the two runs are told as one.
  pub reopens :
      (f : Found) → HoldSound (seen bay) f → IsUnfaulted (seen bay) (seen opened) → StopsMean (seen bay) (seen opened) f from.linear
  -- The run is one on that pool, where all its arrays are ready for the volume and on its disks no superblock of an array stood where a drive that is
  -- no member of it would have its slice.
  pub run_on :
      (f : Found) → HoldSound (seen bay) f → IsUnfaulted (seen bay) (seen opened) → f.state.joined ≡ f.state.made
      → NoStraySuperblock f f.contents → IsRunOn f from (seen opened)
  -- the task, from the volume that the disks meant, where the names of the bay are told
  pub outcome :
      (a : FlatArray)
      → TaskOutcome task status (IsMeant (seen bay) (seen opened) a × (shelf bay).told) (seen bay).traced (seen opened) (seen after) from a
      text rest out out'

-- how it came out
abbrev pub OpenOutcome : {R : Type 0} → (R → RackView) → (R → Shelf) → (R → R → Type 0) → R → R → Task → List ℕ → List ℕ → List ℕ → List ℕ → Status → Type 0
OpenOutcome seen shelf runs bay after task text rest out out' status =
    NotOpened seen runs bay after out out' status ⊎ OpenedOn seen shelf runs bay after task text rest out out' status
