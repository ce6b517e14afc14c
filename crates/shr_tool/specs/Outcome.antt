-- How a script on a pool came out, by the status that is answered.
use Rattle.std.specs.Prelude.{◌≡◌, ◌⊎◌, slice_get, ℕ, ◌<◌, ◌≤◌, ◌^◌, true, false, List, [], ◌∷◌, ◌++◌, length, take, Some}
use Rattle.rack.specs.Seen.{Image, IsPick, RackView, Rose}
use Rattle.rack.specs.Values.{Keeps}
use Rattle.io_ends.specs.Sink.{AddsPrefix}
use Rattle.md_super.specs.declared.superblock.Super.{Super}
use Rattle.array_image.specs.Left.{IsLeft}
use Rattle.array_image.specs.Places.{log_slice}
use Rattle.array_image.specs.States.{is_current}
use Rattle.array_image.specs.Supers.{truth_in}
use Rattle.array_core.specs.Superblocks.{is_settled, left_offset}
use Rattle.array_model.specs.View.{HasGeometry}
use Rattle.pool_image.specs.Disks.{disks_of}
use Rattle.pool_image.specs.Drives.{Found, found}
use Rattle.pool_image.specs.Meaning.{has_table, truth_of}
use Rattle.pool_model.specs.Absent.{AreOnly, HoldAbsent, IsWholeRaid}
use Rattle.pool_model.specs.Alone.{LeaveOut}
use Rattle.pool_model.specs.Grouped.{HaveOwnAreas, HoldGroup}
use Rattle.pool_model.specs.Left.{HoldRest}
use Rattle.pool_model.specs.Pools.{AreSlicesOf, IsSoundPool}
use Rattle.pool_model.specs.Stopped.{HaveTables}
use Rattle.pool_model.specs.Taken.{AreSerial}
use Rattle.slice_rack.specs.Slices.{IsOrderly, disk_of}
use Rattle.slice_rack.specs.Sliced.{slices_of}
use Rattle.array_core.specs.TruthHeld.{HoldTruth}
use Rattle.raid_laws.specs.Agreeing.{AgreeLeaving}
use Rattle.raid_laws.specs.Book.{OnlyMarksSince}
use Rattle.raid_laws.specs.Raid.{IsTracked, is_failed}
use Rattle.assembler.specs.Sound.{HaveOnePool, TargetsLand}
use Rattle.shr_script.specs.Line.{Line}
use Rattle.flat_array.specs.Array.{FlatArray, flushed}
use Rattle.shr_script.specs.Script.{script_of, cut_script_of}
use Rattle.shr_tool.specs.declared.status.Status.{Status}
use Rattle.shr_tool.specs.declared.status.Status.TheVariants.{Done, Words, Limit, Source, Sink, Refused, Memory, Spent}
use Rattle.shr_tool.specs.declared.serve.Stop.{Stop}
use Rattle.shr_tool.specs.declared.serve.Stop.TheVariants.{Quit as AtQuit, Input, SourceFault, Limit as AtLimit, SinkFault}
use Rattle.shr_tool.specs.declared.perform.Answer.{Answer}
use Rattle.shr_tool.specs.declared.perform.Answer.TheVariants.{Given, Spent as Refuses, Memory as Wants}
use Rattle.shr_tool.specs.Events.{AnyTakes, Event, any_takes, array_by, lines_of, text_of, texts, worse, worst_of}
use Rattle.pool.specs.Keeping.{KeepsBook, KeepsWorks}
use Rattle.pool.specs.Moment.{Moment}
use Rattle.pool.specs.Continuing.{KeepsOutside}
use Rattle.rack.specs.Sequences.{WritesOnly}
use Rattle.rack.specs.Shelf.{Shelf}
use Rattle.slice_rack.specs.Runs.{IsSliced}
use Rattle.shr_tool.specs.Timeline.{KeepsMissing, KeepsSlices, KeepsStanding, MeansAt, Timeline, steps_of}
use Rattle.shr_tool.specs.Growing.{GrowsAlong, IsGrowing, ProceedsTo}
use Rattle.shr_tool.specs.Serving.{AreBegun, ArePut}
use Rattle.shr_tool.specs.Service.{AreFit, AreLone, AreUngiven, IsOut, IsServed, none_out, pool_by}
use Rattle.shr_tool.specs.Between.{HaveOthers, HoldsEach, HoldsInside, HoldsNext}

-- no disk's faults rose since they were counted so
abbrev pub NoneRose : (ℕ → ℕ) → (ℕ → ℕ) → Type 0
NoneRose before after = (d : ℕ) → Rose (before d) (after d) → ⊥

-- Where no disk's faults rose in the end of a pool, an array whose superblocks said otherwise leaves in each image just the rows to
-- resync that were left in it before.
abbrev pub LeavesItsRows : RackView → Moment → Moment → Type 0
LeavesItsRows y p q =
    NoneRose p.faults q.faults
    → (n : ℕ) → n < p.linear.arrays → is_failed q.book n ≡ false → is_settled (p.book.arrays n) ≡ false
    → (r : Image) → IsLeft (slices_of q.slices y) r → (t : Super) → truth_in q.book.state r n ≡ Some t
    → t.resync_offset ≡ left_offset (p.book.arrays n)

-- the disks that a bay had are still there under their names
abbrev pub KeepsNames : Shelf → Shelf → Type 0
KeepsNames s t = (d : ℕ) (name : List ℕ) → slice_get s.names d ≡ Some name → slice_get t.names d ≡ Some name

-- The end of a pool: no disk is attached, its volume and the slices of its drives stay where they lie, marks alone come to its book, each of a drive whose disk's faults rose, and a plan goes on; what
-- a stop inside it leaves means the array, and then its current values alone. Outside the slices disks hold what they held, and those of places whose drives
-- were missing everywhere. The clock is told where stops are.
pub record EndsAt (Told : Type 0) (Traced : Type 0) (y : RackView) (p q : Moment) (a : FlatArray) : Type 0 where
  pub later : Told → Traced → p.clock ≤ q.clock
  pub linear : q.linear ≡ p.linear
  pub slices : KeepsSlices p q
  pub after : OnlyMarksSince p.book.state q.book.state
  pub cause :
      (place : ℕ) → is_current p.book.state place ≡ true → is_current q.book.state place ≡ false
      → Rose (p.faults (disk_of p.slices (log_slice place))) (q.faults (disk_of p.slices (log_slice place)))
  pub stands : KeepsStanding KeepsBook 1 p q
  pub works : KeepsWorks p.book q.book
  pub held : Told → (d s : ℕ) → d < p.disks → s < p.sectors d → ((v : List ℕ) → IsSliced p.slices d s v → ⊥) → Keeps (p.held d s) (q.held d s)
  pub missing : Told → KeepsMissing p q (λ d. ⊥)
  pub during : Told → Traced → (k : ℕ) (i : Image) → p.clock < k → k ≤ q.clock → y.stops k i → MeansAt q a i
  pub ended : Told → Traced → (i : Image) → y.stops q.clock i → MeansAt q (flushed a) i

-- contents of whole sectors
abbrev pub HasWholeSectors : RackView → Image → Type 0
HasWholeSectors x i = (d s : ℕ) → d < x.disks → s < x.sectors d → length (i d s) ≡ 512

-- The pool of a run, which its disks, x, had when it began: a sound one, whose drives have the run's slices and their partition tables, and no disk
-- had another pool's state. Its arrays are the volume's, with the members and the sizes of its superblocks, which say these arrays' truths, durably.
-- Where the arrays have the pool's metadata areas they hold its group, whatever they may be left with. Outside the slices the disks are as it has them.
pub record IsRunOn (f : Found) (from : Moment) (x : RackView) : Type 0 where
  pub lasting : x.lasting
  pub before : Image
  pub found_is : found (disks_of x) before ≡ Some f
  pub sound : IsSoundPool f
  pub slices : AreSlicesOf f from.slices
  -- these don't overlap
  pub orderly : IsOrderly from.slices
  pub after : OnlyMarksSince f.state from.book.state
  pub joined : f.state.joined ≡ f.state.made
  pub arrays : from.linear.arrays ≡ f.state.joined
  pub geometry : (n : ℕ) (t : Super) → n < f.state.made → truth_of f n ≡ Some t → HasGeometry t (from.book.arrays n).truth
  -- none of its drives is marked missing
  pub present : (p d : ℕ) → f.seats p ≡ Some d → is_current from.book.state p ≡ true
  pub tables : (p d : ℕ) → f.seats p ≡ Some d → has_table f p d ≡ true
  -- where targets land in its slices a replay finds these by the tables
  pub landing : TargetsLand f → HaveTables f
  pub one_pool : HaveOnePool f
  pub truths : (n : ℕ) → n < f.state.made → HoldTruth (from.book.arrays n) (slices_of from.slices x)
  pub group : HaveOwnAreas f → HoldGroup from.book from.linear (slices_of from.slices x)
  pub rest : HoldRest f from.slices x

-- Events of a script from a moment on, when the disks showed x, and the end of the pool: the disks show it afterwards, and where the pool
-- told its volume to hold an array, each of the volume's arrays is told by the last book. Outside the slices of drives no disk is written
-- but one that a line named to replace a drive. Where none did, sectors of slices alone are written. All that the disks may be left
-- with holds a sound pool again, by the last book's state and with the drives that were taken in, unless an array is over, and is opened as the run's volume; and so does what a stop between
-- lines leaves, and inside the end or a line, once what is pending is written: inside a line that takes a drive in without it or with it. Where lines named images stops are to be told, the pool's drives to have ids of serials, and the images to be fit for it, by what they held before.
pub record RunContract (Told Traced : Type 0) (x y : RackView) (from : Moment) (a : FlatArray) (events : List Event) : Type 0 where
  pub last : Moment
  pub timeline : Timeline (Traced × Told) y.stops from a events last
  pub final : Moment
  pub clock : final.clock ≡ y.clock
  pub faults : (d : ℕ) → final.faults d ≡ y.faults d
  pub disks : final.disks ≡ y.disks
  pub sectors : (d : ℕ) → final.sectors d ≡ y.sectors d
  pub held : (d s : ℕ) → final.held d s ≡ y.held d s
  pub ends : EndsAt Told Traced y last final (array_by a events)
  pub outside : KeepsOutside from.slices final.slices (AnyTakes final.names events) Told x y
  pub apart : any_takes events ≡ false → WritesOnly x y (IsSliced from.slices)
  pub told : Told → IsServed final events → (n : ℕ) → n < final.linear.arrays → IsTracked final.book (slices_of final.slices y) n
  pub rows : Told → IsServed final events → LeavesItsRows y last final
  -- What a stop leaves before the first line, and at the end of each, holds a sound pool again, by the book of that moment. What one inside a line leaves
  -- holds it once what is pending is written, by a state between; where the line takes a drive in, the pool without the drive or with it.
  pub between :
      Told → Traced → (f : Found) → IsRunOn f from x
      → HoldsEach y.stops (AreSerial f.state) (TargetsLand f) (HaveOwnAreas f) [] f from events last (steps_of (Traced × Told) y.stops from a events last timeline)
  -- and so what one inside the end leaves
  pub closing :
      Told → Traced → (f : Found) → IsRunOn f from x
      → AreFit f from events last (steps_of (Traced × Told) y.stops from a events last timeline)
      → HoldsInside y.stops (AreSerial f.state) (TargetsLand f) (HaveOwnAreas f) events (pool_by f from events last (steps_of (Traced × Told) y.stops from a events last timeline)) last final
  -- Where no disk's faults rose in the end, the superblocks of each array that isn't over agree in whatever a stop leaves afterwards, and leave just the rows
  -- to resync that are left in the array, also where they said so before the end.
  pub agreed :
      Told → IsServed final events → NoneRose last.faults final.faults → (f : Found) → IsRunOn f from x
      → (n : ℕ) → n < f.state.made → is_failed final.book n ≡ false
      → (r : Image) → IsLeft (slices_of final.slices y) r → AgreeLeaving (final.book.arrays n) final.book.state r n
  -- Any one drive may be absent after a clean whole end: where no line named a drive to replace, no disk's faults rose in the end, no array is over, and
  -- all drives of the pool are then there, with nothing left to resync, to rebuild or to zero, contents of whole sectors that the disks may be left with
  -- hold a sound pool again, and mean without any one of its drives what they mean with it. Of the pool that the run began on (`IsRunOn`) that asks
  -- that no second disk stood for the place of a drive, and that labels of its arrays name the pool's metadata areas.
  pub safe :
      Told → any_takes events ≡ false → NoneRose last.faults final.faults
      → (f : Found) → IsRunOn f from x → AreOnly f → HaveOwnAreas f
      → IsWholeRaid f.state.made final.book → ((n : ℕ) → n < f.state.made → is_failed final.book n ≡ false)
      → (i : Image) → IsPick y y y.held i → HasWholeSectors y i → HoldAbsent f final.slices final.book.state i
  -- So it is where lines replaced drives, by the pool with these drives, where ids differ and the outset's other disks have none that it gives to drives later
  -- (`AreUngiven`, which passes over images that are left out); without disks that say nothing, as where their images are empty, which are to be those of all lines that were declined, unless
  -- one laid nothing (`AreLone`).
  pub safe_by :
      Told → IsServed final events → NoneRose last.faults final.faults
      → (f : Found) → IsRunOn f from x → AreOnly f → HaveOwnAreas f → (any_takes events ≡ true → AreSerial f.state)
      → AreFit f from events last (steps_of (Traced × Told) y.stops from a events last timeline)
      → (out : List (List ℕ)) → AreUngiven f (record { bound = last.book.state.serial; out = out }) from.names
      → AreLone f (record { bound = last.book.state.serial; out = out }) from events last (steps_of (Traced × Told) y.stops from a events last timeline)
      → IsWholeRaid f.state.made final.book → ((n : ℕ) → n < f.state.made → is_failed final.book n ≡ false)
      → (i j : Image) → IsPick y y y.held i
      → LeaveOut (pool_by f from events last (steps_of (Traced × Told) y.stops from a events last timeline)) (IsOut (record { bound = last.book.state.serial; out = out }) final.names) i j
      → HasWholeSectors y j
      → HoldAbsent (pool_by f from events last (steps_of (Traced × Told) y.stops from a events last timeline)) final.slices final.book.state j
  -- Then no other disk has the id of a drive that a line took in, while that comes to be one of the pool.
  pub others :
      Told → Traced → IsServed final events → (f : Found) → IsRunOn f from x → AreOnly f → AreUngiven f (none_out last.book.state.serial) from.names → (any_takes events ≡ true → AreSerial f.state)
      → AreFit f from events last (steps_of (Traced × Told) y.stops from a events last timeline)
      → AreLone f (none_out last.book.state.serial) from events last (steps_of (Traced × Told) y.stops from a events last timeline)
      → HaveOthers y.stops f from events last (steps_of (Traced × Told) y.stops from a events last timeline)
  pub again :
      Told → IsServed final events → (f : Found) → IsRunOn f from x → (any_takes events ≡ true → Traced × AreSerial f.state)
      → AreFit f from events last (steps_of (Traced × Told) y.stops from a events last timeline)
      → ((n : ℕ) → n < f.state.made → is_failed final.book n ≡ false)
      → (i : Image) → IsPick y y y.held i
      → HoldsNext (TargetsLand f) (HaveOwnAreas f) (pool_by f from events last (steps_of (Traced × Told) y.stops from a events last timeline)) final.slices final.linear final.book i

-- all lines of the text were answered, and the pool was ended; this is the worst of the answers
pub record DoneOutcome (worst : Answer) (Told Traced : Type 0) (x y : RackView) (from : Moment) (a : FlatArray) (text out out' : List ℕ) : Type 0 where
  pub events : List Event
  pub script : script_of text ≡ lines_of events
  pub worst_is : worst_of events ≡ worst
  pub put : Told → out' ≡ out ++ texts a events
  pub lasts : RunContract Told Traced x y from a events

-- a script's limit was reached with more to come
pub record LimitOutcome (Told Traced : Type 0) (x y : RackView) (from : Moment) (a : FlatArray) (text out out' : List ℕ) : Type 0 where
  pub longer : 2 ^ 32 < length text
  pub events : List Event
  pub script : cut_script_of (take (2 ^ 32) text) ≡ lines_of events
  pub put : Told → out' ≡ out ++ texts a events
  pub lasts : RunContract Told Traced x y from a events

-- the source failed after these bytes
pub record SourceOutcome (Told Traced : Type 0) (x y : RackView) (from : Moment) (a : FlatArray) (text rest out out' : List ℕ) : Type 0 where
  pub taken : List ℕ
  pub text_is : text ≡ taken ++ rest
  pub events : List Event
  pub script : cut_script_of taken ≡ lines_of events
  pub put : Told → out' ≡ out ++ texts a events
  pub lasts : RunContract Told Traced x y from a events

-- the sink refused the reply to the last line that was begun
pub record SinkOutcome (Told Traced : Type 0) (x y : RackView) (from : Moment) (a : FlatArray) (text out out' : List ℕ) : Type 0 where
  pub before : List Event
  pub last : Event
  pub more : List Line
  pub script : script_of text ≡ lines_of (before ++ last ∷ []) ++ more
  pub put : Told → AddsPrefix (out ++ texts a before) out' (text_of (array_by a before) last)
  pub lasts : RunContract Told Traced x y from a (before ++ last ∷ [])

-- how a script came out that didn't grow the pool
abbrev pub EventsOutcome : Status → Type 0 → Type 0 → RackView → RackView → Moment → FlatArray → List ℕ → List ℕ → List ℕ → List ℕ → Type 0
EventsOutcome Done Told Traced x y from a text rest out out' = DoneOutcome Given Told Traced x y from a text out out'
EventsOutcome Words Told Traced x y from a text rest out out' = ⊥
EventsOutcome Limit Told Traced x y from a text rest out out' = LimitOutcome Told Traced x y from a text out out'
EventsOutcome Source Told Traced x y from a text rest out out' = SourceOutcome Told Traced x y from a text rest out out'
EventsOutcome Sink Told Traced x y from a text rest out out' = SinkOutcome Told Traced x y from a text out out'
EventsOutcome Refused Told Traced x y from a text rest out out' = ⊥
EventsOutcome Memory Told Traced x y from a text rest out out' = DoneOutcome Wants Told Traced x y from a text out out'
EventsOutcome Spent Told Traced x y from a text rest out out' = DoneOutcome Refuses Told Traced x y from a text out out'

-- ---- a script that grew the pool

-- Events of a script from a moment on up to a line that grew the pool: that, the lines after it, and the end of the pool, when the disks show y. Of the events is
-- told what is told of a run without such a line: but of the volume nothing is told after them. Of the rest: the bay's disks, marks with their causes, numbers, and how each line was
-- answered, by the book before it and after it.
pub record LastsUntil (Told Traced : Type 0) (x y : RackView) (from : Moment) (a : FlatArray) (events : List Event) (first : Line) (more : List Line) (said : List ℕ) (worst : Answer) : Type 0 where
  pub last : Moment
  pub timeline : Timeline (Traced × Told) y.stops from a events last
  pub grown : Moment
  pub lines : GrowsAlong (Traced × Told) last (first ∷ more) said worst grown
  pub growing : IsGrowing last lines.0 first
  pub final : Moment
  pub clock : final.clock ≡ y.clock
  pub faults : (d : ℕ) → final.faults d ≡ y.faults d
  pub disks : final.disks ≡ y.disks
  pub sectors : (d : ℕ) → final.sectors d ≡ y.sectors d
  pub held : (d s : ℕ) → final.held d s ≡ y.held d s
  -- no line loses a drive in the end, which is that of a run without such a line, but that nothing is told of stops and of what the volume holds
  pub ends : ProceedsTo (Traced × Told) (λ place. ⊥) 1 grown final
  pub kept : EndsAt ⊥ ⊥ y grown final a
  -- What a stop leaves before the first line, and at the end of each event and inside it, holds a sound pool again, as in a run without such a line.
  pub between :
      Told → Traced → (f : Found) → IsRunOn f from x
      → HoldsEach y.stops (AreSerial f.state) (TargetsLand f) (HaveOwnAreas f) [] f from events last (steps_of (Traced × Told) y.stops from a events last timeline)

-- the status of a script that stopped so, on a pool that was ended
abbrev pub status_by : Stop → Answer → Status
status_by AtQuit Given = Done
status_by AtQuit Refuses = Spent
status_by AtQuit Wants = Memory
status_by Input Given = Done
status_by Input Refuses = Spent
status_by Input Wants = Memory
status_by SourceFault worst = Source
status_by AtLimit worst = Limit
status_by SinkFault worst = Sink

-- How it came out, by why the script stopped and by the worst of all answers.
pub record GrownOutcome (status : Status) (Told Traced : Type 0) (x y : RackView) (from : Moment) (a : FlatArray) (text rest out out' : List ℕ) : Type 0 where
  pub events : List Event
  pub first : Line
  pub more : List Line
  pub stop : Stop
  pub begun : AreBegun stop text rest (lines_of events ++ first ∷ more)
  pub answer : Answer
  pub status_is : status_by stop (worse (worst_of events) answer) ≡ status
  pub said : List ℕ
  pub put : Told → ArePut stop out out' (texts a events ++ said)
  pub lasts : LastsUntil Told Traced x y from a events first more said answer

-- How a script came out on a pool that held an array, where that was told. `from` is the moment when it began, `y` what the disks show
-- in the end. No line grew the pool, or one did.
abbrev pub Outcome : Status → Type 0 → Type 0 → RackView → RackView → Moment → FlatArray → List ℕ → List ℕ → List ℕ → List ℕ → Type 0
Outcome status Told Traced x y from a text rest out out' =
    EventsOutcome status Told Traced x y from a text rest out out' ⊎ GrownOutcome status Told Traced x y from a text rest out out'

-- a fault is answered only where its count rose, and words are refused before anything is done
abbrev pub HasStatusCause : Status → ℕ → ℕ → ℕ → ℕ → Type 0
HasStatusCause Done source source' sink sink' = Unit {0}
HasStatusCause Words source source' sink sink' = ⊥
HasStatusCause Limit source source' sink sink' = Unit {0}
HasStatusCause Source source source' sink sink' = Rose source source'
HasStatusCause Sink source source' sink sink' = Rose sink sink'
HasStatusCause Refused source source' sink sink' = Unit {0}
HasStatusCause Memory source source' sink sink' = Unit {0}
HasStatusCause Spent source source' sink sink' = Unit {0}
