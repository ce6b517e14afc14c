-- What contents show of a stop inside a call of a pool, and what a stop leaves of its disks while a new drive is laid.
use Rattle.std.specs.Prelude.{◌≡◌, ◌≢◌, ◌⊎◌, ℕ, ◌+◌, ◌-◌, ◌<◌, ◌≤◌, ◌^◌, ◌==◌, true, false, List, None, Some}
use Rattle.rack.specs.Values.{MayLeave}
use Rattle.rack.specs.Seen.{Image, IsLive, RackView}
use Rattle.slice_rack.specs.Runs.{IsSliced}
use Rattle.slice_rack.specs.Slices.{IsOrderly, Slices, first_of, place_of as slice_place, seat_of, sectors_of}
use Rattle.slice_rack.specs.Sliced.{sliced}
use Rattle.md_super.specs.declared.superblock.Super.{Super}
use Rattle.pool_state.specs.declared.contents.Copied.{Copied}
use Rattle.pool_state.specs.declared.contents.State.{State}
use Rattle.array_image.specs.Arrays.{replayed}
use Rattle.array_image.specs.Places.{log_slice, state_sector, super_sector}
use Rattle.array_image.specs.Record.{GateAt, gate_sector, pending_at}
use Rattle.array_image.specs.States.{current_places, is_current, state_in, id_of}
use Rattle.array_model.specs.View.{HasGeometry}
use Rattle.log_laws.specs.Kept.{IsNoLater}
use Rattle.log_laws.specs.Saying.{PlaceJoins}
use Rattle.raid_laws.specs.Book.{OnlyMarksSince}
use Rattle.raid_laws.specs.Enlisting.{next_drive}
use Rattle.raid_laws.specs.Frames.{HasFrame, frame_of}
use Rattle.raid_laws.specs.Logs.{LogsBetween}
use Rattle.raid_laws.specs.Missing.{raised}
use Rattle.raid_laws.specs.Raid.{Raid}
use Rattle.raid_laws.specs.Runs.{IsBetween}
use Rattle.raid_laws.specs.Since.{AreSince, AreTakenSince}
use Rattle.pool_image.specs.Disks.{Disks, Identities, disks_of, id_by, identities_of, seat_of as seat_in_disks, stands_for}
use Rattle.pool_image.specs.Drives.{Found, first_of as first_in_pool}
use Rattle.pool_image.specs.Meaning.{is_member, truth_of}
use Rattle.pool_image.specs.Replay.{logs_of}
use Rattle.pool_rest.specs.Moments.{IsNoneOrBelow}
use Rattle.pool_model.specs.InService.{IsArranged, IsSaid, epoch_at}
use Rattle.pool_model.specs.Left.{NoStraySuperblockBy, HasNoSuper, IsPickOutsideSlices}
use Rattle.pool_model.specs.Stopped.{AreSlicesNow, LieByTables}

-- A pool by which a call on slices t goes that begins with the book v: marks alone have come to its state, all its arrays are ready for the volume, with the
-- members and the sizes that they had, and its slices, which lie inside its disks, are those of t, for the places that are current.
pub record IsCalledBy (f : Found) (t : Slices) (v : Raid) : Type 0 where
  pub arranged : IsArranged f
  pub after : OnlyMarksSince f.state v.state
  pub joined : f.state.joined ≡ f.state.made
  pub geometry : (n : ℕ) (u : Super) → n < f.state.made → truth_of f n ≡ Some u → HasGeometry u (v.arrays n).truth
  pub slices : (e : Identities) → AreSlicesNow (record f { identities = e }) t v.state
  pub orderly : IsOrderly t
  pub inside : (k d : ℕ) → seat_of t (slice_place k) ≡ Some d → 0 < sectors_of t k → first_of t k + sectors_of t k ≤ f.disks.sectors d

-- What contents of its disks show that a stop inside the call leaves, which ends with the book w: by the slices a state between the two, and the arrays by it.
pub record ShowsParts (f : Found) (t : Slices) (v w : Raid) (i : Image) : Type 0 where
  pub said : IsSaid f i
  pub tables : LieByTables f t v.state i
  pub alone : NoStraySuperblockBy v.state f i
  -- no disk stands for a current place without a drive
  pub absent :
      (p d : ℕ) → is_current v.state p ≡ true → f.seats p ≡ None → d < f.disks.count → stands_for v.state (identities_of f.disks i d) ≡ Some p → ⊥
  pub logs : LogsBetween v.state w.state (sectors_of t) (sliced t i)
  pub arrays : (n : ℕ) → n < f.state.made → IsBetween v.state w.state n (replayed (sectors_of t) (sliced t i))
  pub frames : (n : ℕ) → n < f.state.made → HasFrame (frame_of (v.arrays n).truth) n (replayed (sectors_of t) (sliced t i))

-- And copies since the book v: a drive whose place isn't current says an earlier state.
pub record ShowsStop (f : Found) (t : Slices) (v w : Raid) (i : Image) : Type 0 where
  pub parts : ShowsParts f t v w i
  pub former :
      (p d : ℕ) (copy : Copied) → f.seats p ≡ Some d → is_current v.state p ≡ false → (identities_of f.disks i d).copied ≡ Some copy
      → copy.state.epoch < v.state.epoch
  pub since : AreSince v.state (sectors_of t) (sliced t i)

-- ---- while a new drive is laid

-- Outside the slices contents are as x may be left, but for one disk, which is no current place's and has no slice. A state that it says there it may have
-- said before; its table may be any, also one that is half written, or that has the id of the pool's next drive.
pub record IsLaidOutsideSlices (f : Found) (t : Slices) (s : State) (disk : ℕ) (x : RackView) (i : Image) : Type 0 where
  pub vacant : (p : ℕ) → f.seats p ≡ Some disk → is_current s p ≡ false
  pub free : (k : ℕ) (w : List ℕ) → IsSliced t disk k w → ⊥
  pub opened : (k : ℕ) → k < x.sectors disk → IsLive x x disk k
  pub others : (d k : ℕ) → d ≢ disk → IsLive x x d k → ((w : List ℕ) → IsSliced t d k w → ⊥) → MayLeave (x.held d k) (i d k)
  pub says : (copy : Copied) → (identities_of (disks_of x) i disk).copied ≡ Some copy → MayLeave (x.held disk state_sector) (i disk state_sector)

-- By the slices contents say a state between the books v and w, with the own copies of each place that is current by v, and all arrays by it, with the size and the
-- members' places that they had.
pub record SaysBooks (made : ℕ) (t : Slices) (v w : Raid) (i : Image) : Type 0 where
  pub logs : LogsBetween v.state w.state (sectors_of t) (sliced t i)
  pub since : AreSince v.state (sectors_of t) (sliced t i)
  pub arrays : (n : ℕ) → n < made → IsBetween v.state w.state n (replayed (sectors_of t) (sliced t i))
  pub frames : (n : ℕ) → n < made → HasFrame (frame_of (v.arrays n).truth) n (replayed (sectors_of t) (sliced t i))

-- ---- while it joins

-- Outside the slices contents are as x may be left, but for a disk that gets the slices of a place. There no superblock stands where slices of arrays would begin that the
-- place is no member of, and the drive that the place had says no later state than the book.
pub record IsJoinedOutsideSlices (f : Found) (u : Slices) (v : Raid) (place disk : ℕ) (x : RackView) (i : Image) : Type 0 where
  pub low : disk < x.disks
  pub opened : (k : ℕ) → k < x.sectors disk → IsLive x x disk k
  pub others : (d k : ℕ) → d ≢ disk → IsLive x x d k → ((w : List ℕ) → IsSliced u d k w → ⊥) → MayLeave (x.held d k) (i d k)
  pub alone :
      (n first : ℕ) → n < f.state.made → is_member f n place ≡ false → first_in_pool f n ≡ Some first → first + super_sector < x.sectors disk
      → HasNoSuper f.state.pool.0 n (i disk (first + super_sector))
  pub earlier :
      (d : ℕ) → d ≢ disk → f.seats place ≡ Some d → (j : Image) → IsPickOutsideSlices u x j → (copy : Copied) → (identities_of (disks_of x) j d).copied ≡ Some copy
      → copy.state.epoch < raised v.state.epoch

-- A state that the drive which a place had says at such a stop: one from before the book's, or its own of the book's state at most.
abbrev pub SaysFormerly : State → ℕ → Copied → Type 0
SaysFormerly v place copy = (copy.state.epoch < v.epoch) ⊎ (IsNoLater v copy × (id_of copy.state copy.own ≡ id_of v place))

-- A state r by which place p has the drive that it has once a new one has joined at a place: one since the state before, unless the place is this one, or one since the
-- new drive joined.
abbrev pub GoesBy : (v next : State) → (place : ℕ) → (r : State) → (p : ℕ) → Type 0
GoesBy v next place r p = (OnlyMarksSince v r × (p ≢ place)) ⊎ OnlyMarksSince next r

-- A place has the drive that it had yet, by the state q that stands: the record that is pending brings the state s, by which it gets the new one. The gate on the drive that it
-- had is of a lower number than the record's.
pub record IsFormerYet (disks : Disks) (u : Slices) (q s : State) (place : ℕ) (i : Image) : Type 0 where
  pub joins : PlaceJoins q s place
  pub lower :
      (a : GateAt) → pending_at (current_places q) (sliced u i) ≡ Some a
      → IsNoneOrBelow a.gate.number (logs_of disks (seat_in_disks q disks (identities_of disks i)) i (log_slice place) gate_sector)

-- What contents show that a stop leaves in which a new drive joins: h is the pool with it, by the state `next`, and v is the state before. As they stand the drives of
-- other places that were current say states since v or since `next`, each its place's own, and the new drive one since `next`, if any.
pub record ShowsJoining (h : Found) (u : Slices) (v next s : State) (place : ℕ) (i : Image) : Type 0 where
  pub state : h.state ≡ next
  pub later : v.epoch < next.epoch
  pub room : s.epoch < 2 ^ 63 - 1
  pub current : (p : ℕ) → is_current v p ≡ true → is_current next p ≡ true
  pub joining : AreTakenSince (λ p. p == place) v next (sectors_of u) (sliced u i)
  pub present : (p : ℕ) → is_current next p ≡ true → (d : ℕ) × (h.seats p ≡ Some d)
  -- another drive is left that the pool had
  pub someone : (p : ℕ) × (p ≢ place) × (is_current v p ≡ true) × (is_current s p ≡ true)
  -- another disk says no later state than the one before
  pub strangers :
      (q : ℕ) (copy : Copied) → ((p : ℕ) → h.seats p ≡ Some q → ⊥) → q < h.disks.count → (identities_of h.disks i q).copied ≡ Some copy → IsNoLater v copy
  -- by states since v, and by those since `next`, current places have their drives
  pub seats :
      (r : State) (p d : ℕ) → GoesBy v next place r p → is_current r p ≡ true → h.seats p ≡ Some d
      → seat_in_disks r h.disks (identities_of h.disks i) p ≡ Some d
  -- but that the place may have the drive that it had
  pub former :
      (q : State) → state_in (sliced u i) ≡ Some q → OnlyMarksSince v q → is_current q place ≡ true → OnlyMarksSince next q ⊎ IsFormerYet h.disks u q s place i

-- Whom disks stand for at such a stop, by states since v and by those since `next`: each drive for its own place and for no other one that is current, and of the disks that
-- are no drives those that stand for a drive's place say earlier states than the drive, or one of its epoch behind it. While the new drive says no state it has the epoch 0, so no
-- other disk stands for its place then.
pub record NamesJoining (h : Found) (v next : State) (place : ℕ) (i : Image) : Type 0 where
  pub own :
      (r : State) (p d : ℕ) → GoesBy v next place r p → is_current r p ≡ true → h.seats p ≡ Some d → stands_for r (identities_of h.disks i d) ≡ Some p
  pub apart :
      (r : State) (p k x : ℕ) → GoesBy v next place r p → is_current r p ≡ true → h.seats k ≡ Some x → k ≢ p
      → stands_for r (identities_of h.disks i x) ≡ Some p → ⊥
  pub before :
      (r : State) (p d x : ℕ) → GoesBy v next place r p → is_current r p ≡ true → h.seats p ≡ Some d → ((k : ℕ) → h.seats k ≡ Some x → ⊥) → x < d
      → stands_for r (identities_of h.disks i x) ≡ Some p → epoch_at (identities_of h.disks i x) < epoch_at (identities_of h.disks i d)
  pub behind :
      (r : State) (p d x : ℕ) → GoesBy v next place r p → is_current r p ≡ true → h.seats p ≡ Some d → ((k : ℕ) → h.seats k ≡ Some x → ⊥) → d < x → x < h.disks.count
      → stands_for r (identities_of h.disks i x) ≡ Some p → epoch_at (identities_of h.disks i x) ≤ epoch_at (identities_of h.disks i d)

-- No other disk has the id of the pool's next drive, but for the drives of other places, whose ids are their own. While the new drive says no state it stands for its place by the id in
-- its table alone, so a disk that has this id there, as one that was laid and then declined, or that says a state by which it is its own, would be taken for it.
abbrev pub HaveOtherIds : Found → State → (place disk : ℕ) → Image → Type 0
HaveOtherIds f s place disk i =
    (d : ℕ) → d < f.disks.count → d ≢ disk → ((p : ℕ) → p ≢ place → f.seats p ≢ Some d)
    → id_by (identities_of f.disks i d).table (identities_of f.disks i d).copied ≢ Some (next_drive s).0
