-- A new drive is taken in at a place, whose drive is missing or gives way to it: what a rack of arrays is after it, and what stops leave meanwhile.
use Rattle.std.specs.Prelude.{◌≡◌, ◌⊎◌, ℕ, ◌+◌, ◌<◌, ◌≤◌, ◌==◌, Bool, true, false, List, length, Ok, Option, Some, option_map, slice_set, if◌then◌else◌}
use Rattle.rack.specs.Values.{Values, IsSingle, Keeps, MayLeave}
use Rattle.rack.specs.Seen.{Image, RackView, Rose, IsLive}
use Rattle.rack.specs.Moments.{Leaves}
use Rattle.rack.specs.Sequences.{MayBecome, OnlyReads, WritesOnly}
use Rattle.shr_base.specs.declared.Id.{Id}
use Rattle.gpt_table.specs.declared.Table.{Table}
use Rattle.gpt_table.specs.declared.TableCopy.{TableCopy}
use Rattle.gpt_table.specs.Disk.{HoldsCopy, now_on}
use Rattle.gpt_table.specs.Format.{mbr_of}
use Rattle.gpt_table.specs.Plans.{IsOfTable}
use Rattle.slice_rack.specs.Slices.{Slices, sectors_of as sectors_sliced}
use Rattle.slice_rack.specs.Sliced.{slices_of, sliced}
use Rattle.slice_rack.specs.Runs.{IsSliced}
use Rattle.pool_state.specs.Sector.{decoded}
use Rattle.pool_state.specs.declared.contents.Copied.{Copied}
use Rattle.pool_state.specs.declared.contents.Plan.{Plan}
use Rattle.pool_state.specs.declared.contents.State.{State}
use Rattle.array_image.specs.Places.{drive_id, log_sectors, log_slice, member_slice}
use Rattle.array_image.specs.Record.{GateAt, gate_sector, pending_at}
use Rattle.array_image.specs.States.{current_places, is_current, state_in}
use Rattle.array_image.specs.Arrays.{Shape, replayed}
use Rattle.array_image.specs.Held.{IsSynced}
use Rattle.array_image.specs.Left.{IsInside}
use Rattle.array_model.specs.ArrayCalls.{IncludesSpent}
use Rattle.array_model.specs.View.{View, HasFault, sectors_of, shape_of, spent_in}
use Rattle.array_model.specs.Says.{ImageShowsArray}
use Rattle.array_core.specs.Seats.{renewed}
use Rattle.array_core.specs.Superblocks.{is_settled}
use Rattle.array_core.specs.TruthHeld.{HoldTruth}
use Rattle.log_laws.specs.Bytes.{first_gate}
use Rattle.raid_laws.specs.Book.{OnlyMarksSince}
use Rattle.log_laws.specs.Saying.{HoldsCopies, RecoversTo}
use Rattle.raid_laws.specs.Frames.{Frame, HasFrame, KeepsFrame, frame_of}
use Rattle.raid_laws.specs.Logs.{LogsBetween}
use Rattle.raid_laws.specs.Losses.{has_other}
use Rattle.raid_laws.specs.Marking.{SaysBetween}
use Rattle.raid_laws.specs.Missing.{raised}
use Rattle.raid_laws.specs.Moves.{AreCaused, IsTrackedInCall, IsHeeded, IsUnmarked, KeepsArrays, Mends, ChangesNoData, RaisesBy}
use Rattle.raid_laws.specs.NewDrive.{IsOfDrive, drive_table, joins, length_in, no_state}
use Rattle.raid_laws.specs.Raid.{Raid, IsTracked, held_in, is_failed, live_of, spent_of}
use Rattle.raid_laws.specs.Truths.{KeepsTruths}
use Rattle.raid_laws.specs.Rows.{KeepsRows, LeavesFrom, LeavesRows}
use Rattle.raid_laws.specs.Runs.{CrashInvariant}
use Rattle.raid_laws.specs.Since.{AreJoinSince, AreSince, AreTakenSince, HoldsJoinSince, HoldsSince, HoldsTakenSince, KeepsJoinSince, KeepsTakenSince}
use Rattle.raid_laws.specs.Unlost.{KeepsUnlost}
use Rattle.raid_laws.specs.Vacated.{FindsArray, IsFormerly}

-- ---- the book

-- the id of the next new drive
abbrev pub next_drive : State → Id
next_drive s = record { 0 = drive_id s.pool.0 s.serial }

-- the state in which the drive of a place is a new one of so many units, of the next epoch
abbrev pub enlisted : (place units : ℕ) → Plan → State → State
enlisted place units plan s = record s {
  epoch = raised s.epoch;
  drives = record { items = slice_set s.drives.items place (record { id = next_drive s; units = units; missing = false }) };
  plan = plan;
  serial = s.serial + 1;
}

-- the pool with it: its members, in the arrays that its disk reaches, are to be rebuilt from their start
abbrev pub with_drive : (place units : ℕ) → Plan → (ℕ → Bool) → Raid → Raid
with_drive place units plan joining v = record v {
  state = enlisted place units plan v.state;
  arrays = λ n. if joining n then renewed place (next_drive v.state) (v.arrays n) else v.arrays n;
}

-- What holds of the book after the call, whatever disks tell: but for the drive and its members nothing has changed save marks of
-- losses, each with its cause. `a` and `b` are the slices by the new tables.
pub record IsEnlisted (place units : ℕ) (plan : Plan) (joining : ℕ → Bool) (v w : Raid) (a b : RackView) : Type 0 where
  pub book : OnlyMarksSince (enlisted place units plan v.state) w.state
  pub plan_is : w.state.plan ≡ plan
  pub arrays : KeepsArrays (with_drive place units plan joining v) w
  pub sectors : (n : ℕ) → sectors_of (w.arrays n) ≡ sectors_of (v.arrays n)
  pub caused : AreCaused (with_drive place units plan joining v) w a b
  pub heeded : IsHeeded w
  pub number : v.number ≤ w.number
  pub events : (n : ℕ) → n < v.state.made → (v.arrays n).truth.events ≤ (w.arrays n).truth.events
  -- what is spent stays so
  pub spent : (n y : ℕ) → n < v.state.made → spent_in (w.arrays n) y ≡ false → spent_in (v.arrays n) y ≡ false
  pub still : (n : ℕ) → n < v.state.made → has_other w.state place ≡ true → is_failed w n ≡ false → is_failed v n ≡ false

-- ---- values

-- contents say array n by a state, and its sectors hold these values
pub record SaysBy (s : State) (n : ℕ) (vals : ℕ → Values) (spent : ℕ → Bool) (r : Image) : Type 0 where
  pub is_state : state_in r ≡ Some s
  pub shape : Shape
  pub says : ImageShowsArray s n shape vals spent r

-- a disk holds a table
abbrev pub HoldsTable : ℕ → Table → Image → Type 0
HoldsTable disk table c = (copy : TableCopy) → HoldsCopy copy table (c disk)

-- it holds what it held, or what is laid on it, with this table, before it is one of the pool
abbrev pub HoldsLaid : RackView → ℕ → Table → Image → Type 0
HoldsLaid a disk table c = (s : ℕ) → s < a.sectors disk → MayBecome a (IsOfDrive disk table) disk s (c disk s)

-- Before the disk is one of the pool, contents of the drives say array n by the tables before, and by the state before, and the disk is
-- being laid. Where images left the array no rows to resync but its own, nor do these. No log is damaged, the copies of the state agree, and each place that is
-- current has its own.
pub record SaysLaying (t : Slices) (disk : ℕ) (table : Table) (v w : Raid) (a : RackView) (n : ℕ) (vals : ℕ → Values) (c : Image) : Type 0 where
  pub laid : HoldsLaid a disk table c
  pub says : SaysBy v.state n vals (spent_of w n) (replayed (sectors_sliced t) (sliced t c))
  pub rows : LeavesRows v (slices_of t a) n → LeavesFrom (v.arrays n).resync n (replayed (sectors_sliced t) (sliced t c))
  pub logs : RecoversTo v.state (sectors_sliced t) (sliced t c)
  pub since : AreSince v.state (sectors_sliced t) (sliced t c)
  pub frame : HasFrame (frame_of (v.arrays n).truth) n (replayed (sectors_sliced t) (sliced t c))

-- From then on they say it by the tables after, and by the state before or one that has the new drive, and the disk holds its table. Each place that was current
-- has its own copy, of the state before or of one that has the new drive, and the place of the new drive has one of these at most.
pub record SaysJoining (t u : Slices) (disk : ℕ) (table : Table) (next : State) (v w : Raid) (a : RackView) (n : ℕ) (vals : ℕ → Values) (c : Image) : Type 0 where
  pub holds : HoldsTable disk table c
  pub says :
      SaysBy v.state n vals (spent_of w n) (replayed (sectors_sliced u) (sliced u c))
      ⊎ SaysBetween next w.state n vals (spent_of w n) (replayed (sectors_sliced u) (sliced u c))
  pub rows : LeavesRows v (slices_of t a) n → LeavesFrom (v.arrays n).resync n (replayed (sectors_sliced u) (sliced u c))
  pub logs : RecoversTo v.state (sectors_sliced u) (sliced u c) ⊎ LogsBetween next w.state (sectors_sliced u) (sliced u c)
  pub since : AreJoinSince v.state next (sectors_sliced u) (sliced u c)
  pub frame : HasFrame (frame_of (v.arrays n).truth) n (replayed (sectors_sliced u) (sliced u c))

-- Where the place was current, it has another disk by the tables after, and the old disk isn't written any more. Contents of the slices before say array n, while
-- the record of the new drive doesn't count yet: by the state before, as at a stop before the call. The slices are by one table, of these lengths.
pub record SaysFormer (v : Raid) (a : RackView) (n : ℕ) (vals : ℕ → Values) (spent : ℕ → Bool) (sectors : ℕ → ℕ) (c : Image) : Type 0 where
  pub says : SaysBy v.state n vals spent (replayed sectors c)
  pub rows : LeavesRows v a n → LeavesFrom (v.arrays n).resync n (replayed sectors c)
  pub logs : RecoversTo v.state sectors c
  pub since : AreSince v.state sectors c
  pub frame : HasFrame (frame_of (v.arrays n).truth) n (replayed sectors c)

-- As they stand log slices say the state before yet: the record that is pending brings the first state that has the new drive, and it is of a later number than the
-- log had before.
pub record StandsYet (s next : State) (number : ℕ) (sectors : ℕ → ℕ) (c : Image) (stood : State) : Type 0 where
  pub before : stood ≡ s
  pub brings : state_in (replayed sectors c) ≡ Some next
  pub later : (g : GateAt) → pending_at (current_places s) c ≡ Some g → number < g.gate.number

-- From then on contents of the slices after say it, by a state that has the new drive; `s` is the state before, and `number` the log's then. As they stand the log
-- slices say such a state too, or the one before yet.
pub record SaysLatter (s next : State) (number : ℕ) (w : Raid) (n : ℕ) (vals : ℕ → Values) (spent : ℕ → Bool) (g : Frame) (sectors : ℕ → ℕ) (c : Image) : Type 0 where
  pub says : SaysBetween next w.state n vals spent (replayed sectors c)
  pub logs : LogsBetween next w.state sectors c
  pub stands : (stood : State) → state_in c ≡ Some stood → OnlyMarksSince next stood ⊎ StandsYet s next number sectors c stood
  pub frame : HasFrame g n (replayed sectors c)

-- contents have no copy of a state on a place
abbrev pub HasNoCopy : ℕ → Image → Type 0
HasNoCopy place c = (copy : Copied) → decoded (c (log_slice place) 0) ≡ Ok copy → ⊥

-- So contents of the drives say it from the time on when the slices of the new disk were added, and this disk holds its table. Which slices they are said by is told by
-- the state that those after say once replayed, so it is one for all arrays. Each other place that was current has its own copy, of the state before or of one that has
-- the new drive; the place of the new drive has one of these at most, and none before the record counts.
pub record SaysReplacing (t u : Slices) (place disk : ℕ) (table : Table) (next : State) (v w : Raid) (a : RackView) (n : ℕ) (vals : ℕ → Values) (c : Image) : Type 0 where
  pub holds : HoldsTable disk table c
  pub says :
      (SaysFormer v (slices_of t a) n vals (spent_of w n) (sectors_sliced t) (sliced t c) × HasNoCopy place (sliced u c)
      × (state_in (replayed (sectors_sliced u) (sliced u c)) ≡ Some v.state))
      ⊎ (SaysLatter v.state next v.number w n vals (spent_of w n) (frame_of (v.arrays n).truth) (sectors_sliced u) (sliced u c)
      × (LeavesRows v (slices_of t a) n → LeavesFrom (v.arrays n).resync n (replayed (sectors_sliced u) (sliced u c))))
  pub since : AreTakenSince (λ p. p == place) v.state next (sectors_sliced u) (sliced u c)

-- each sector of a disk can be called, and is told
abbrev pub IsOpenDisk : RackView → ℕ → Type 0
IsOpenDisk x disk = (s : ℕ) → s < x.sectors disk → IsLive x x disk s

-- Array n, which was told, where the new disk is open and a drive is left that the pool had: it is told after the call, with the values
-- that it had, and at each moment contents say these. `mid` is the time when the slices of the disk were added: the moment tells by which
-- tables contents are said, so those of one moment are said by the same ones for all arrays.
pub record KeepsTold (t u : Slices) (place disk units : ℕ) (plan : Plan) (table : Table) (v w : Raid) (a b : RackView) (mid n : ℕ) : Type 0 where
  pub told : IsTracked w (slices_of u b) n
  pub keeps : (y : ℕ) → live_of w n y → Keeps (held_in v (slices_of t a) n y) (held_in w (slices_of u b) n y)
  pub before :
      a.traced → is_failed w n ≡ false → (k : ℕ) (c : Image) → a.clock < k → k ≤ mid → b.stops k c
      → SaysLaying t disk table v w a n (held_in v (slices_of t a) n) c
  -- where the place's drive was missing
  pub after :
      is_current v.state place ≡ false → a.traced → is_failed w n ≡ false → (k : ℕ) (c : Image) → mid < k → k ≤ b.clock → b.stops k c
      → SaysJoining t u disk table (enlisted place units plan v.state) v w a n (held_in v (slices_of t a) n) c
  -- and where it wasn't
  pub replacing :
      is_current v.state place ≡ true → a.traced → is_failed w n ≡ false → (k : ℕ) (c : Image) → mid < k → k ≤ b.clock → b.stops k c
      → SaysReplacing t u place disk table (enlisted place units plan v.state) v w a n (held_in v (slices_of t a) n) c
  pub framed : is_failed w n ≡ false → frame_of (w.arrays n).truth ≡ frame_of (v.arrays n).truth
  -- also a drive that is marked in the call has its place's own copy
  pub since : is_current v.state place ≡ false → is_failed w n ≡ false → HoldsJoinSince v.state (enlisted place units plan v.state) (slices_of u b)
  pub copied : is_current v.state place ≡ true → is_failed w n ≡ false → HoldsTakenSince (λ p. p == place) v.state (enlisted place units plan v.state) (slices_of u b)
  pub rows : is_failed w n ≡ false → LeavesRows v (slices_of t a) n → ((v.arrays n).resync ≤ (w.arrays n).resync) × LeavesRows w (slices_of u b) n

-- what is laid on the new disk, with its table, or a sector of a slice
abbrev pub IsWrittenBy : Slices → (disk : ℕ) → Table → ℕ → ℕ → List ℕ → Type 0
IsWrittenBy u disk table d s v = IsOfDrive disk table d s v ⊎ IsSliced u d s v

-- the table of a pool's next drive
abbrev pub new_table : State → List View → (place sectors : ℕ) → Table
new_table s arrays place sectors = drive_table (next_drive s).0 arrays place sectors (length arrays)

-- The drive is one of the pool: `t` and `u` are the tables before and after, `a` and `b` the drives, and `arrays` the arrays before.
pub record Enlists (t u : Slices) (arrays : List View) (place disk units : ℕ) (plan : Plan) (v w : Raid) (a b : RackView) : Type 0 where
  pub is : IsEnlisted place units plan (joins arrays place (a.sectors disk)) v w (slices_of u a) (slices_of u b)
  pub raises : RaisesBy 19 v w
  pub only : WritesOnly a b (IsWrittenBy u disk (new_table v.state arrays place (a.sectors disk)))
  -- the disk has its table, durably
  pub mbr : IsLive a b disk 0 → now_on b disk 0 ≡ mbr_of (a.sectors disk)
  pub copies : ((s : ℕ) → IsOfTable (a.sectors disk) s → IsLive a b disk s) → HoldsTable disk (new_table v.state arrays place (a.sectors disk)) (λ d. now_on b d)
  pub durable : (s : ℕ) → IsOfTable (a.sectors disk) s → IsLive a b disk s → IsSingle (b.held disk s)
  -- the time when its slices were added, within the call
  pub mid : ℕ
  pub within : a.traced → (a.clock ≤ mid) × (mid ≤ b.clock)
  pub told :
      (n : ℕ) → n < v.state.made → IsTracked v (slices_of t a) n → IsOpenDisk a disk → has_other w.state place ≡ true
      → KeepsTold t u place disk units plan (new_table v.state arrays place (a.sectors disk)) v w a b mid n
  -- superblocks that said an array's truth do so after it, and so do those of the new members
  pub truths : IsOpenDisk a disk → (n : ℕ) → n < v.state.made → HoldTruth (v.arrays n) (slices_of t a) → HoldTruth (w.arrays n) (slices_of u b)

-- ---- refusals

-- The new disk refused a call, and nothing has changed but what was laid on it, with the table of the next drive. To the arrays nothing happened, at no moment
-- of the call either.
pub record IsRefused (t : Slices) (disk : ℕ) (table : Table) (v : Raid) (a b : RackView) : Type 0 where
  pub only : WritesOnly a b (IsOfDrive disk table)
  pub gone : Rose (a.faults disk) (b.faults disk)
  pub moves : ChangesNoData v v (slices_of t a) (slices_of t b)
  pub moments : CrashInvariant v v (slices_of t a) (slices_of t b)
  pub truths : KeepsTruths v v (slices_of t a) (slices_of t b)

-- Another drive than the new one was found gone and is marked, it may be that of the place: the drive isn't taken in. But for the marks all is as before, and so it is at each moment of the call.
pub record IsNotWhole (t : Slices) (disk : ℕ) (table : Table) (v w : Raid) (a b : RackView) : Type 0 where
  pub only : WritesOnly a b (IsWrittenBy t disk table)
  pub mends : Mends v w (slices_of t a) (slices_of t b)
  pub raises : RaisesBy 18 v w
  pub moments : CrashInvariant v w (slices_of t a) (slices_of t b)
  pub truths : KeepsTruths v w (slices_of t a) (slices_of t b)
  pub unlost : KeepsUnlost v.state w.state (slices_of t a) (slices_of t b)
  pub lost : (p : ℕ) × (is_current v.state p ≡ true) × (is_current w.state p ≡ false) × HasFault (slices_of t a) (slices_of t b) p

-- ---- the parts of the call

-- All arrays are settled, and nobody went: the log is as it was, and no array is marked.
pub record SettlesWhole (v w : Raid) (a b : RackView) : Type 0 where
  pub moves : ChangesNoData v w a b
  pub reads : OnlyReads a b
  pub same : w.state ≡ v.state
  pub number : w.number ≡ v.number
  pub raised : (n : ℕ) → n < v.state.made → (w.arrays n).truth.events ≤ (v.arrays n).truth.events + 1
  pub heeded : IsHeeded w
  pub unmarked : (n : ℕ) → n < v.state.made → IsUnmarked (w.arrays n)
  pub settled :
      (n : ℕ) (vals : ℕ → Values) (spent : ℕ → Bool) → n < v.state.made → n < v.state.joined → is_failed w n ≡ false → IncludesSpent (w.arrays n) spent
      → IsTrackedInCall v a n vals spent → IsSynced (shape_of (w.arrays n)) n b.held

-- a drive was found gone, and is marked
abbrev pub HasLost : Raid → Raid → RackView → RackView → Type 0
HasLost v w a b = (p : ℕ) × (is_current v.state p ≡ true) × (is_current w.state p ≡ false) × HasFault a b p

-- the array of a number, with the member of a place renewed where it is to be
abbrev pub renewed_at : ℕ → Id → (ℕ → Bool) → ℕ → Option View → Option View
renewed_at place drive joining n o = option_map (λ u. if joining n then renewed place drive u else u) o

-- A rack of slices has those of a place's new disk: the log slice, and the slices of its members.
pub record HasNewSlices (arrays : List View) (place sectors : ℕ) (x : RackView) : Type 0 where
  pub log : x.sectors (log_slice place) ≡ log_sectors
  pub members : (n : ℕ) → n < 16 → x.sectors (member_slice place n) ≡ (if joins arrays place sectors n then length_in arrays n else 0)

-- the log slice of a new drive: it says no state, and its gate is the first one
pub record IsNewLog (place : ℕ) (x : RackView) : Type 0 where
  pub live : (t : ℕ) → t < x.sectors (log_slice place) → IsLive x x (log_slice place) t
  pub state : (v : List ℕ) → MayLeave (x.held (log_slice place) 0) v → v ≡ no_state
  pub gate : (v : List ℕ) → MayLeave (x.held (log_slice place) gate_sector) v → v ≡ first_gate

-- Array n, over slices that the new drive has already: at each moment contents say it by the state before or by one that has the drive,
-- with its values, and it stands after the commit.
pub record JoinsPart (place units : ℕ) (plan : Plan) (v w : Raid) (a b : RackView) (n : ℕ) (vals : ℕ → Values) (spent : ℕ → Bool) : Type 0 where
  pub leaves :
      a.traced
      → Leaves a b (λ c. IsInside a.sectors c
      → SaysBy v.state n vals spent (replayed a.sectors c) ⊎ SaysBetween (enlisted place units plan v.state) w.state n vals spent (replayed a.sectors c))
  pub holds : IsTrackedInCall w b n vals spent
  -- nor do contents leave it rows to resync that they didn't
  pub rows : LeavesRows v a n → KeepsRows v w a b n
  -- and the log slices say these states
  pub logs :
      HoldsCopies v.state a → a.traced
      → Leaves a b (λ c. IsInside a.sectors c → RecoversTo v.state a.sectors c ⊎ LogsBetween (enlisted place units plan v.state) w.state a.sectors c)
  -- with each place's own copies
  pub since : HoldsCopies v.state a → HoldsSince v.state a → KeepsJoinSince v.state (enlisted place units plan v.state) a b
  -- its size and its members' places stay
  pub frame : (g : Frame) → frame_of (v.arrays n).truth ≡ g → KeepsFrame g n (w.arrays n) a b

-- The same of an array that is found so over these slices, where images have the state s: at each moment contents are as before the commit, or they say the array by a
-- state that has the new drive. That leaves no rows to resync but the array's, where its truth leaves no others.
pub record FindsPart (place units : ℕ) (plan : Plan) (s : State) (v w : Raid) (a b : RackView) (n : ℕ) (vals : ℕ → Values) (spent : ℕ → Bool) : Type 0 where
  pub leaves :
      a.traced
      → Leaves a b (λ c. IsInside a.sectors c
      → IsFormerly place a c
      ⊎ (SaysLatter s (enlisted place units plan v.state) v.number w n vals spent (frame_of (v.arrays n).truth) a.sectors c
      × (is_settled (v.arrays n) ≡ true → (v.arrays n).young ≡ false → LeavesFrom (v.arrays n).resync n (replayed a.sectors c))))
  pub since : (new : ℕ → Bool) → HoldsTakenSince new s (enlisted place units plan v.state) a → KeepsTakenSince new s (enlisted place units plan v.state) a b
  pub holds : IsTrackedInCall w b n vals spent
  pub rows : is_settled (v.arrays n) ≡ true → (v.arrays n).young ≡ false → ((v.arrays n).resync ≤ (w.arrays n).resync) × LeavesRows w b n
  pub frame : frame_of (w.arrays n).truth ≡ frame_of (v.arrays n).truth

-- all arrays that are
abbrev pub FindsEach : (place units : ℕ) → Plan → Raid → Raid → RackView → RackView → Type 0
FindsEach place units plan v w a b =
    IsNewLog place a → has_other w.state place ≡ true
    → (s : State) (before : ℕ → Bool) (n : ℕ) (vals : ℕ → Values) (spent : ℕ → Bool) → n < v.state.joined → n < v.state.made → is_failed w n ≡ false
    → IncludesSpent (w.arrays n) spent → FindsArray s before place v a n vals spent → FindsPart place units plan s v w a b n vals spent

-- all arrays that stand and are settled, where a drive is left that the pool had
abbrev pub JoinsEach : (place units : ℕ) → Plan → Raid → Raid → RackView → RackView → Type 0
JoinsEach place units plan v w a b =
    IsNewLog place a → has_other w.state place ≡ true
    → (n : ℕ) (vals : ℕ → Values) (spent : ℕ → Bool) → n < v.state.joined → n < v.state.made → is_failed w n ≡ false → IncludesSpent (w.arrays n) spent
    → IsTrackedInCall v a n vals spent → IsSynced (shape_of (v.arrays n)) n a.held → JoinsPart place units plan v w a b n vals spent
