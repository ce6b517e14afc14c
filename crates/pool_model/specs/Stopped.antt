-- What a stop inside a call of a pool leaves on its disks.
use Rattle.std.specs.Prelude.{◌≡◌, ◌⊎◌, ℕ, suc, ◌+◌, ◌-◌, ◌<◌, ◌≤◌, ◌^◌, ◌&&◌, true, false, nat_lt, None, Some}
use Rattle.rack.specs.Moments.{Leaves}
use Rattle.rack.specs.Seen.{Image, RackView}
use Rattle.slice_rack.specs.Slices.{IsOrderly, Slices, first_of, place_of as slice_place, seat_of, sectors_of}
use Rattle.slice_rack.specs.Sliced.{sliced}
use Rattle.gpt_table.specs.Changes.{the_table}
use Rattle.gpt_table.specs.Disk.{Contents}
use Rattle.md_super.specs.declared.superblock.Super.{Super}
use Rattle.pool_state.specs.declared.contents.Copied.{Copied}
use Rattle.pool_state.specs.declared.contents.State.{State}
use Rattle.array_image.specs.Arrays.{first_layout, replayed}
use Rattle.array_image.specs.Left.{IsInside as HasNothing}
use Rattle.array_image.specs.Places.{arrays_first, log_slice, member_slice, place_of}
use Rattle.array_image.specs.Record.{pending}
use Rattle.array_image.specs.SoundArray.{IsSoundArray}
use Rattle.array_image.specs.States.{is_current}
use Rattle.array_image.specs.Supers.{is_named, truth_in}
use Rattle.log_laws.specs.Kept.{IsNoLater}
use Rattle.log_laws.specs.Saying.{RecoversTo}
use Rattle.log_laws.specs.Standing.{deciding}
use Rattle.raid_laws.specs.Book.{OnlyMarksSince}
use Rattle.raid_laws.specs.Frames.{HasFrame, frame_of}
use Rattle.raid_laws.specs.Logs.{LogsBetween}
use Rattle.raid_laws.specs.Raid.{Raid}
use Rattle.raid_laws.specs.Runs.{IsBetween}
use Rattle.raid_laws.specs.Since.{AreSince}
use Rattle.pool_image.specs.Disks.{identities_of, seat_of as seat_of_disks, stands_for}
use Rattle.pool_image.specs.Drives.{Found, extent_of}
use Rattle.pool_image.specs.Meaning.{is_member, truth_of}
use Rattle.pool_image.specs.Replay.{Extent, extent_by, share, standing, standing_by}
use Rattle.pool_rest.specs.Moments.{TakesLowerIn}
use Rattle.pool_rest.specs.Resting.{seated_state}
use Rattle.pool_rest.specs.SoundLogs.{HasSoundLogs}
use Rattle.pool_model.specs.InService.{IsOutset, epoch_at}
use Rattle.pool_model.specs.Left.{NoStraySuperblockBy, AreElsewhere, HavePlaces, RecoversIdle, Recovers, IsPickOutsideSlices}
use Rattle.pool_model.specs.Pools.{extent_in}

-- Tables of slices are those of a pool's drives, for the places that are current by a state.
pub record AreSlicesNow (f : Found) (t : Slices) (s : State) : Type 0 where
  pub seats : (p d : ℕ) → is_current s p ≡ true → f.seats p ≡ Some d → seat_of t p ≡ Some d
  pub logs : (p d : ℕ) → is_current s p ≡ true → f.seats p ≡ Some d → extent_of f 0 ≡ Some (extent_in t (log_slice p))
  pub members :
      (n p d : ℕ) → n < f.state.made → is_current s p ≡ true → f.seats p ≡ Some d → is_member f n p ≡ true
      → extent_of f (suc n) ≡ Some (extent_in t (member_slice p n))
  pub others : (n p : ℕ) → n < 16 → (nat_lt n f.state.made && is_member f n p) ≡ false → sectors_of t (member_slice p n) ≡ 0
  pub unseated : (k : ℕ) → is_current s (place_of k) ≡ true → f.seats (place_of k) ≡ None → sectors_of t k ≡ 0

-- contents of slices say an array soundly: its truth has the size and the layout that the pool's has, and names the same places
pub record SaysArray (f : Found) (s : State) (c : Image) (n : ℕ) : Type 0 where
  pub truth : Super
  pub is_truth : truth_in s c n ≡ Some truth
  pub sound : IsSoundArray s c n truth
  pub size : (u : Super) → truth_of f n ≡ Some u → truth.size ≡ u.size
  pub layout : (u : Super) → truth_of f n ≡ Some u → first_layout truth ≡ first_layout u
  pub named : (u : Super) (p : ℕ) → truth_of f n ≡ Some u → is_named truth p ≡ is_named u p

-- the table of a disk of so many sectors has a place's members' slices where they lie
abbrev pub LieOn : Slices → (place sectors : ℕ) → Contents → Type 0
LieOn t place sectors disk =
    (n : ℕ) → n < 16 → 0 < sectors_of t (member_slice place n)
    → extent_by sectors (the_table sectors disk) (n + 1) ≡ Some (extent_in t (member_slice place n))

-- so have the tables of the drives of the places that are current by a state
abbrev pub LieByTables : Found → Slices → State → Image → Type 0
LieByTables f t s i = (p d : ℕ) → is_current s p ≡ true → seat_of t p ≡ Some d → LieOn t p (f.disks.sectors d) (i d)

-- Contents of the disks of a pool f, as a stop inside a call leaves them: its slices t, where its places are those that are current by the state base, say the
-- state s and all arrays soundly once the pending record is written, and outside the slices the disks are as the pool has them.
pub record SaysStopped (f : Found) (t : Slices) (base s : State) (i : Image) : Type 0 where
  pub is : IsOutset f
  pub begun : OnlyMarksSince f.state base
  pub after : OnlyMarksSince base s
  pub joined : f.state.joined ≡ f.state.made
  pub slices : AreSlicesNow f t base
  pub orderly : IsOrderly t
  pub inside : (k d : ℕ) → seat_of t (slice_place k) ≡ Some d → 0 < sectors_of t k → first_of t k + sectors_of t k ≤ f.disks.sectors d
  -- a place that is current when the call begins and has no drive: no disk stands for it
  pub absent :
      (p d : ℕ) → is_current base p ≡ true → f.seats p ≡ None → d < f.disks.count → stands_for base (identities_of f.disks i d) ≡ Some p → ⊥
  pub someone : (p d : ℕ) × (is_current s p ≡ true) × (f.seats p ≡ Some d)
  pub tables : LieByTables f t s i
  pub says : RecoversTo s (sectors_of t) (sliced t i)
  pub arrays : (n : ℕ) → n < f.state.made → SaysArray f s (replayed (sectors_of t) (sliced t i)) n
  pub elsewhere : AreElsewhere f i
  pub alone : NoStraySuperblockBy s f i

-- Of a call that began with the state base: copies and targets are such as it writes.
pub record IsStopped (f : Found) (t : Slices) (base s : State) (i : Image) : Type 0 where
  pub stop : SaysStopped f t base s i
  pub room : s.epoch < 2 ^ 63 - 1
  -- a drive whose place wasn't current when the call began says an earlier state
  pub former :
      (p d : ℕ) (copy : Copied) → f.seats p ≡ Some d → is_current base p ≡ false → (identities_of f.disks i d).copied ≡ Some copy
      → copy.state.epoch < base.epoch
  pub since : AreSince base (sectors_of t) (sliced t i)

-- a drive of one of the places that are current by s has a state, and a log slice
pub record HasLeader (f : Found) (s u : State) (i : Image) : Type 0 where
  pub place : ℕ
  pub disk : ℕ
  pub own : ℕ
  pub current : is_current s place ≡ true
  pub seat : f.seats place ≡ Some disk
  pub copy : (identities_of f.disks i disk).copied ≡ Some (record { state = u; own = own })
  pub room : arrays_first ≤ f.disks.sectors disk

-- What contents of a pool's disks say as they stand, where what is pending brings the state s: no disk says a later state than the one that stands, the logs are
-- sound, and each place that is current by s has the drive that it had.
pub record StandFor (f : Found) (t : Slices) (s : State) (i : Image) : Type 0 where
  pub stood : State
  pub stands : standing f.disks i ≡ Some (standing_by f.disks i stood)
  pub targets : (standing_by f.disks i stood).targets ≡ pending (deciding (sliced t i)) (sliced t i)
  pub seated : seated_state (standing_by f.disks i stood).targets stood ≡ s
  pub logs : HasSoundLogs f.disks i
  pub lower : TakesLowerIn f.disks i
  pub early : (s ≡ stood) ⊎ (stood.epoch < s.epoch)
  pub seats : (p : ℕ) → is_current s p ≡ true → seat_of_disks s f.disks (identities_of f.disks i) p ≡ f.seats p
  pub latest : (q : ℕ) (copy : Copied) → q < f.disks.count → (identities_of f.disks i q).copied ≡ Some copy → IsNoLater stood copy
  -- a drive whose place isn't current by s, and which stands for one that is, says an earlier state
  pub former :
      (r q p : ℕ) → f.seats r ≡ Some q → is_current s r ≡ false → is_current s p ≡ true → stands_for s (identities_of f.disks i q) ≡ Some p
      → epoch_at (identities_of f.disks i q) < s.epoch
  pub leader : HasLeader f s stood i

-- ---- inside calls

-- What calls on the slices of a pool's drives tell of their stops, from the book v to the book w, of so many arrays: the log slices say a state between the two,
-- with copies that are such as calls leave which began with v's; and by a state between each array's superblocks agree, with the size and the members'
-- places that they had.
pub record TellsStops (made : ℕ) (v w : Raid) (a b : RackView) : Type 0 where
  pub logs : Leaves a b (λ c. HasNothing a.sectors c → LogsBetween v.state w.state a.sectors c)
  pub since : Leaves a b (λ c. HasNothing a.sectors c → AreSince v.state a.sectors c)
  pub arrays : (n : ℕ) → n < made → Leaves a b (λ c. HasNothing a.sectors c → IsBetween v.state w.state n (replayed a.sectors c))
  pub frames : (n : ℕ) → n < made → Leaves a b (λ c. HasNothing a.sectors c → HasFrame (frame_of (v.arrays n).truth) n (replayed a.sectors c))

-- by their tables a pool's drives have the members' slices where the pool has them
abbrev pub HaveTables : Found → Type 0
HaveTables f =
    (n p d : ℕ) → n < f.state.made → f.seats p ≡ Some d → is_member f n p ≡ true
    → extent_by (f.disks.sectors d) (f.identities d).table (suc n) ≡ extent_of f (suc n)

-- so it is by the tables that the disks have, whatever they may be left with outside the slices, of the places that are current by a state
abbrev pub HoldTables : Found → Slices → State → RackView → Type 0
HoldTables f t s x = (i : Image) → IsPickOutsideSlices t x i → LieByTables f t s i

-- Of an array that a drive is no member of its table has no slice that shares a sector with that of a higher array which it is a member of:
-- a replay passes over a slice that shares one with a lower one.
abbrev pub LieApart : Found → Type 0
LieApart f =
    (m n p d : ℕ) (a b : Extent) → m < n → n < f.state.made → f.seats p ≡ Some d → is_member f m p ≡ false → is_member f n p ≡ true
    → extent_by (f.disks.sectors d) (f.identities d).table (suc m) ≡ Some a → extent_of f (suc n) ≡ Some b → share b a ≡ false

-- Contents hold a pool again, and by its drives' tables its slices lie apart, so that the targets of a record that a later call leaves pending land there.
pub record RecoversLanding (f : Found) (t : Slices) (s : State) (i : Image) : Type 0 where
  pub again : RecoversIdle f t s i
  pub apart : LieApart again.still.now

-- Before a pool's record was replayed one of its drives had the state that stood, and none another one that isn't earlier.
pub record HaveStood (f : Found) : Type 0 where
  pub place : ℕ
  pub disk : ℕ
  pub own : ℕ
  pub seat : f.seats place ≡ Some disk
  pub copy : (f.before.identities disk).copied ≡ Some (record { state = f.before.state; own = own })
  pub latest : (p d : ℕ) (other : Copied) → f.seats p ≡ Some d → (f.before.identities d).copied ≡ Some other → IsNoLater f.before.state other

-- And that drive has a log slice.
pub record StoodInLog (f : Found) : Type 0 where
  pub stood : HaveStood f
  pub room : arrays_first ≤ f.disks.sectors stood.disk

-- Contents of disks hold the pool still, by a state between two. The record that is pending there lands where the slices are by the drives' tables; one of
-- them, which has a log slice, has the state that stands, and those that are taken in have gates of lower numbers.
pub record RecoversBetween (f : Found) (t : Slices) (s u : State) (i : Image) : Type 0 where
  pub state : State
  pub later : OnlyMarksSince s state
  pub sooner : OnlyMarksSince state u
  pub still : Recovers f t state i
  pub apart : LieApart still.now
  pub stood : StoodInLog still.now
  pub lower : TakesLowerIn f.disks i

-- So it is of a pool in service, of which each place that is current by that state has its drive.
pub record RecoversInCall (f : Found) (t : Slices) (s u : State) (i : Image) : Type 0 where
  pub between : RecoversBetween f t s u i
  pub present : HavePlaces between.state between.still.now
