-- What a stop leaves between two lines of a run and inside a line: a sound pool again, as the end of a run does.
use Rattle.std.specs.Prelude.{◌≡◌, ◌≢◌, ◌⊎◌, ℕ, ◌<◌, ◌≤◌, true, false, List, [], ◌∷◌, ◌++◌, None}
use Rattle.rack.specs.Seen.{Image}
use Rattle.slice_rack.specs.Changes.{Seats}
use Rattle.slice_rack.specs.Slices.{Slices, sectors_of}
use Rattle.slice_rack.specs.Sliced.{sliced}
use Rattle.array_image.specs.States.{is_current}
use Rattle.pool_state.specs.declared.contents.Plan.TheVariants.{Replace as Replacing}
use Rattle.pool_state.specs.declared.contents.State.{State}
use Rattle.raid_laws.specs.Book.{OnlyMarksSince}
use Rattle.raid_laws.specs.Enlisting.{enlisted}
use Rattle.raid_laws.specs.Logs.{LogsBetween}
use Rattle.lvm_group.specs.Runs.{Linear}
use Rattle.raid_laws.specs.Raid.{Raid, is_failed}
use Rattle.pool_image.specs.Drives.{Found}
use Rattle.pool_model.specs.Laid.{HaveOtherIds}
use Rattle.pool_model.specs.Grouped.{AreHeadsLive}
use Rattle.pool_model.specs.Left.{RecoversIdle}
use Rattle.pool_model.specs.Reopening.{AreWholeSectors, NextOpen, NextOpenInCall}
use Rattle.pool_model.specs.Stopped.{RecoversInCall, RecoversLanding}
use Rattle.pool_model.specs.Taken.{attached}
use Rattle.pool.specs.declared.replacing.GrowFault.{GrowFault}
use Rattle.pool.specs.Moment.{Moment}
use Rattle.shr_tool.specs.Events.{Event, any_takes, looks_at}
use Rattle.shr_tool.specs.Events.Event.{lost, replaced, declined}
use Rattle.shr_tool.specs.Service.{IsFitDisk, IsFitDrive, IsFitFor, IsServed, disk_in, disks_at, pool_after, units_in}
use Rattle.shr_tool.specs.Timeline.{Steps}

-- Contents hold the pool f again, over slices and by a book. Where targets land in the pool that the run began on (`Landing`), they land in the one that
-- is found, so that no more is to be known of it when it is opened. Where the arrays of that pool have its metadata areas (`Group`), and before their first extents no
-- sector is spent by the book, the arrays of whole sectors stand as the book has them, and they mean the run's volume, or are refused for what the book says of an array or for
-- another pool's disk.
pub record HoldsNext (Landing Group : Type 0) (f : Found) (t : Slices) (l : Linear) (v : Raid) (i : Image) : Type 0 where
  pub again : RecoversIdle f t v.state i
  pub landing : Landing → RecoversLanding f t v.state i
  pub opens : Group → AreHeadsLive v → AreWholeSectors f.disks i → NextOpen f t l v i

-- Contents hold the pool f, by a state between those of two books, once what is pending is written. They mean the run's volume, too, with members that count as far as in between, or
-- are refused for such a reason by the book before.
pub record HoldsMeanwhile (Group : Type 0) (f : Found) (t : Slices) (l : Linear) (v w : Raid) (i : Image) : Type 0 where
  pub amid : RecoversInCall f t v.state w.state i
  pub opens : Group → AreHeadsLive w → AreWholeSectors f.disks i → NextOpenInCall f t l v w i

-- Whatever a stop at a moment leaves holds the pool f again, by the book of that moment and over its slices, unless an array is over by then. `done`
-- are the events before it: where one of them was to replace a drive, a sector of the volume can be had at that moment, and the ids of the pool's
-- drives are of serials.
abbrev pub HoldsThen : (ℕ → Image → Type 0) → (Serial Landing Group : Type 0) → (done : List Event) → Found → Moment → Type 0
HoldsThen stops Serial Landing Group done f p =
    IsServed p done → (any_takes done ≡ true → Serial) → ((n : ℕ) → n < f.state.made → is_failed p.book n ≡ false)
    → (i : Image) → stops p.clock i → HoldsNext Landing Group f p.slices p.linear p.book i

-- Whatever a stop leaves after one moment and up to a later one holds the pool f, by a state between those of the two books, once what is pending is
-- written, unless an array is over by then. `done` are the events before the first. `Landing`: targets land where the slices are of the pool that the run
-- began on.
abbrev pub HoldsInside : (ℕ → Image → Type 0) → (Serial Landing Group : Type 0) → (done : List Event) → Found → (p q : Moment) → Type 0
HoldsInside stops Serial Landing Group done f p q =
    IsServed p done → (any_takes done ≡ true → Serial) → Landing → ((n : ℕ) → n < f.state.made → is_failed q.book n ≡ false)
    → (k : ℕ) (i : Image) → p.clock < k → k ≤ q.clock → stops k i → HoldsMeanwhile Group f p.slices p.linear p.book q.book i

-- the state by which a line that begins at p takes a drive in at a place
abbrev pub coming : Moment → (place : ℕ) → State
coming p place = enlisted place (units_in p place) (Replacing place) p.book.state

-- The slices by which a pool stands without the drive that a line from p to q takes in at a place: such as give the place no disk, or those of after, by which it has the
-- new one; or those of before, where by these it has the disk that gives way.
abbrev pub AreWithout : (p q : Moment) → (place : ℕ) → Slices → Type 0
AreWithout p q place t = Seats p.slices t place None ⊎ ((t ≡ q.slices) ⊎ ((is_current p.book.state place ≡ true) × (t ≡ p.slices)))

-- A place's own drive, and no other one, was found gone and is marked, by a state between two.
pub record LosesOwn (s u : State) (place : ℕ) (m : State) : Type 0 where
  pub after : OnlyMarksSince s m
  pub sooner : m.epoch < u.epoch
  pub was : is_current s place ≡ true
  pub lost : is_current m place ≡ false
  pub others : (k : ℕ) → k ≢ place → is_current s k ≡ true → is_current m k ≡ true

-- Contents hold the pool f over such slices, by the state of before, or up to one by which the drive that was to give way is marked missing.
abbrev pub HoldsWithout : Found → (p q : Moment) → (place : ℕ) → Image → Type 0
HoldsWithout f p q place i =
    (t : Slices) × (m : State) × AreWithout p q place t × ((m ≡ p.book.state) ⊎ LosesOwn p.book.state q.book.state place m)
    × RecoversInCall (attached f (disks_at q)) t p.book.state m i

-- Contents hold the pool f without the drive that a line takes in at a place. Or their log slices say a state that has the drive, and they hold the pool with it by this
-- state, where no other disk has the id that the drive gets: while it has no state yet it stands for its place by this id alone.
abbrev pub HoldsEither : Found → (p q : Moment) → (place : ℕ) → (name : List ℕ) → Image → Type 0
HoldsEither f p q place name i =
    HoldsWithout f p q place i
    ⊎ (LogsBetween (coming p place) q.book.state (sectors_of q.slices) (sliced q.slices i)
    × (HaveOtherIds (attached f (disks_at q)) p.book.state place (disk_in q place) i
    → RecoversInCall (pool_after f p q (replaced place name)) q.slices (coming p place) q.book.state i))

-- In what a stop leaves inside an event no other disk has the id of a drive that it took in.
abbrev pub HasOthers : (ℕ → Image → Type 0) → Found → (p q : Moment) → Event → Type 0
HasOthers stops f p q (replaced place name) =
    (k : ℕ) (i : Image) → p.clock < k → k ≤ q.clock → stops k i → HaveOtherIds (attached f (disks_at q)) p.book.state place (disk_in q place) i
HasOthers stops f p q event = Unit {0}

-- So it is inside each of several.
abbrev pub HaveOthers : (ℕ → Image → Type 0) → Found → (p : Moment) → (events : List Event) → (q : Moment) → Steps p events q → Type 0
HaveOthers stops f p [] q steps = Unit {0}
HaveOthers stops f p (event ∷ events) q steps =
    HasOthers stops f p steps.0 event × HaveOthers stops (pool_after f p steps.0 event) steps.0 events q steps.1

-- Whatever a stop leaves inside a line that takes a drive in holds the pool without it or with it, unless an array is over by the line's end. The image that
-- the line names is fit for the pool, and where it waited it says no state, or an earlier one.
abbrev pub HoldsTaking : (ℕ → Image → Type 0) → (Serial Landing Group : Type 0) → (done : List Event) → Found → (p q : Moment) → (place : ℕ) → (name : List ℕ) → Type 0
HoldsTaking stops Serial Landing Group done f p q place name =
    IsServed q (done ++ replaced place name ∷ []) → Serial → Landing → IsFitDrive f p place name → IsFitDisk f p name
    → ((n : ℕ) → n < f.state.made → is_failed q.book n ≡ false)
    → (k : ℕ) (i : Image) → p.clock < k → k ≤ q.clock → stops k i → HoldsEither f p q place name i

-- contents hold the pool f, with the disk that was attached, by a state between the books of p and q, over the slices of q; or over those of p, where the place's
-- drive wasn't missing then
abbrev pub HoldsLeft : Found → (p q : Moment) → (place : ℕ) → Image → Type 0
HoldsLeft f p q place i =
    (t : Slices) × ((t ≡ q.slices) ⊎ ((is_current p.book.state place ≡ true) × (t ≡ p.slices)))
    × RecoversInCall (attached f (disks_at q)) t p.book.state q.book.state i

-- Inside one that was to take a drive in, and didn't, it holds the pool that there was. Where the place's drive wasn't missing and is found gone, the place may give
-- up its disk in it.
abbrev pub HoldsDeclined : (ℕ → Image → Type 0) → (Serial Landing Group : Type 0) → (done : List Event) → Found → (p q : Moment) → (place : ℕ) → (name : List ℕ) → GrowFault → Type 0
HoldsDeclined stops Serial Landing Group done f p q place name fault =
    IsServed q (done ++ declined place name fault ∷ []) → Serial → Landing → IsFitDisk f p name
    → ((n : ℕ) → n < f.state.made → is_failed q.book n ≡ false)
    → (k : ℕ) (i : Image) → p.clock < k → k ≤ q.clock → stops k i → HoldsLeft f p q place i

-- So it is inside an event.
abbrev pub HoldsWithin : (ℕ → Image → Type 0) → (Serial Landing Group : Type 0) → (done : List Event) → Found → (p q : Moment) → Event → Type 0
HoldsWithin stops Serial Landing Group done f p q (replaced place name) = HoldsTaking stops Serial Landing Group done f p q place name
HoldsWithin stops Serial Landing Group done f p q (declined place name fault) =
    (looks_at fault ≡ false → HoldsInside stops Serial Landing Group done f p q)
    × (looks_at fault ≡ true → HoldsDeclined stops Serial Landing Group done f p q place name fault)
HoldsWithin stops Serial Landing Group done f p q event = HoldsInside stops Serial Landing Group done f p q

-- So it is at the moment when events begin, at the end of each of them and inside it, with the drives that were taken in up to there. Only the images that
-- lines named before that moment are to be fit for the pool.
abbrev pub HoldsEach : (ℕ → Image → Type 0) → (Serial Landing Group : Type 0) → (done : List Event) → Found → (p : Moment) → (events : List Event) → (q : Moment) → Steps p events q → Type 0
HoldsEach stops Serial Landing Group done f p [] q steps = HoldsThen stops Serial Landing Group done f p
HoldsEach stops Serial Landing Group done f p (event ∷ events) q steps =
    HoldsThen stops Serial Landing Group done f p
    × HoldsWithin stops Serial Landing Group done f p steps.0 event
    × (IsFitFor f p event → HoldsEach stops Serial Landing Group (done ++ event ∷ []) (pool_after f p steps.0 event) steps.0 events q steps.1)
