-- What a stop between two calls of a pool leaves on its disks.
use Rattle.std.specs.Prelude.{◌≡◌, ◌≢◌, ◌⊎◌, ℕ, suc, ◌+◌, ◌<◌, ◌≤◌, true, false, List, [], None, Some, is_ok, is_some}
use Rattle.rack.specs.Values.{MayLeave}
use Rattle.rack.specs.Seen.{Image, IsLive, RackView}
use Rattle.slice_rack.specs.Runs.{IsSliced}
use Rattle.slice_rack.specs.Slices.{Slices, first_of as slice_first, place_of as slice_place, seat_of, sectors_of}
use Rattle.slice_rack.specs.Sliced.{sliced}
use Rattle.gpt_table.specs.Changes.{the_table}
use Rattle.md_super.specs.declared.superblock.Super.{Super}
use Rattle.md_super.specs.Profile.{profiled}
use Rattle.pool_state.specs.declared.contents.State.{State}
use Rattle.array_image.specs.Arrays.{arrays_in, replayed, shape_in}
use Rattle.array_image.specs.Left.{Picks}
use Rattle.array_image.specs.Places.{array_id, log_slice, member_slice, super_sector}
use Rattle.array_image.specs.States.{is_current, state_in}
use Rattle.array_image.specs.Supers.{is_unclean, super_of, truth_in}
use Rattle.array_model.specs.View.{HasGeometry}
use Rattle.pool_image.specs.Disks.{identities_of}
use Rattle.pool_image.specs.Drives.{Found, extent_of, first_of, found}
use Rattle.pool_image.specs.Meaning.{absent_count, array_sectors, arrays_held, group_of, has_log, has_table, is_member, joined_arrays, shape_of, truth_of, volumes_of}
use Rattle.pool_image.specs.Replay.{Standing, standing}
use Rattle.pool_image.specs.Sound.{AreSame}
use Rattle.pool_image.specs.Volumes.{first_bad}
use Rattle.pool_rest.specs.SoundLogs.{HasSoundLogs}
use Rattle.raid_laws.specs.Book.{OnlyMarksSince}
use Rattle.raid_laws.specs.Raid.{Raid, IsTracked, is_failed}
use Rattle.pool_model.specs.Pools.{AreSlicesOf, IsSoundPool, extent_in}

-- A pool that is served: the disks had the pool f, and over the slices of its drives its arrays stand by the book v, as the slices y
-- show them. Marks alone have come to its state, all its arrays are ready for the volume, none of them is over, and each has the
-- members and the sizes that it had.
pub record IsServed (f : Found) (t : Slices) (v : Raid) (y : RackView) : Type 0 where
  pub slices : AreSlicesOf f t
  pub after : OnlyMarksSince f.state v.state
  pub joined : f.state.joined ≡ f.state.made
  pub told : (n : ℕ) → n < f.state.made → IsTracked v y n
  pub lasts : (n : ℕ) → n < f.state.made → is_failed v n ≡ false
  pub geometry : (n : ℕ) (u : Super) → n < f.state.made → truth_of f n ≡ Some u → HasGeometry u (v.arrays n).truth

-- What contents of the disks have outside the slices: each drive its table, and other disks say of the pool what they said.
pub record AreElsewhere (f : Found) (i : Image) : Type 0 where
  pub tables : (p d : ℕ) → f.seats p ≡ Some d → the_table (f.disks.sectors d) (i d) ≡ (f.identities d).table
  pub others : (d : ℕ) → ((p : ℕ) → f.seats p ≡ Some d → ⊥) → d < f.disks.count → identities_of f.disks i d ≡ f.identities d

-- A block has no superblock of an array of a pool: none at all, one of another array, or one that breaks the profile of members.
abbrev pub HasNoSuper : (pool : List ℕ) → (array : ℕ) → List ℕ → Type 0
HasNoSuper pool array block =
    (t : Super) → super_of block ≡ Some t → (t.set_id.0 ≢ array_id pool array) ⊎ ((extent : ℕ) → is_ok (profiled t extent) ≡ false)

-- On a drive that is no member of an array no superblock of it stands where its slice would be.
abbrev pub NoStraySuperblock : Found → Image → Type 0
NoStraySuperblock f i =
    (n p d first : ℕ) → n < f.state.made → f.seats p ≡ Some d → is_member f n p ≡ false → first_of f n ≡ Some first
    → first + super_sector < f.disks.sectors d → HasNoSuper f.state.pool.0 n (i d (first + super_sector))

-- So it is on the drives of the places that are current by a state.
abbrev pub NoStraySuperblockBy : State → Found → Image → Type 0
NoStraySuperblockBy s f i =
    (n p d first : ℕ) → n < f.state.made → is_current s p ≡ true → f.seats p ≡ Some d → is_member f n p ≡ false → first_of f n ≡ Some first
    → first + super_sector < f.disks.sectors d → HasNoSuper f.state.pool.0 n (i d (first + super_sector))

-- contents that disks may be left with outside the slices
abbrev pub IsPickOutsideSlices : Slices → RackView → Image → Type 0
IsPickOutsideSlices t x i = (d s : ℕ) → IsLive x x d s → ((v : List ℕ) → IsSliced t d s v → ⊥) → MayLeave (x.held d s) (i d s)

-- Outside the slices the disks are as the pool has them, whatever they may be left with.
pub record HoldRest (f : Found) (t : Slices) (x : RackView) : Type 0 where
  pub elsewhere : (i : Image) → IsPickOutsideSlices t x i → AreElsewhere f i
  pub alone : (i : Image) → IsPickOutsideSlices t x i → NoStraySuperblock f i

-- Contents of the disks that such a pool leaves, by a state: its slices, which lie inside the disks, have what they may be left with.
pub record IsLeftBy (f : Found) (t : Slices) (s : State) (y : RackView) (i : Image) : Type 0 where
  pub sectors : (k : ℕ) → y.sectors k ≡ sectors_of t k
  pub picks : Picks y (sliced t i)
  pub inside : (k d : ℕ) → seat_of t (slice_place k) ≡ Some d → 0 < sectors_of t k → slice_first t k + sectors_of t k ≤ f.disks.sectors d
  pub elsewhere : AreElsewhere f i
  pub alone : NoStraySuperblockBy s f i

-- Slices of the drives of a pool, which are those of current places: those of other places don't matter to it.
pub record HaveSlices (g : Found) (t : Slices) : Type 0 where
  pub seats : (p d : ℕ) → g.seats p ≡ Some d → seat_of t p ≡ Some d
  pub logs : (p d : ℕ) → g.seats p ≡ Some d → extent_of g 0 ≡ Some (extent_in t (log_slice p))
  pub members : (n p d : ℕ) → n < g.state.made → g.seats p ≡ Some d → is_member g n p ≡ true → extent_of g (suc n) ≡ Some (extent_in t (member_slice p n))
  pub others : (n p : ℕ) → n < g.state.made → is_member g n p ≡ false → sectors_of t (member_slice p n) ≡ 0

-- each place that is current by a state has a drive of the pool
abbrev pub HavePlaces : State → Found → Type 0
HavePlaces s g = (p : ℕ) → is_current s p ≡ true → (d : ℕ) × (g.seats p ≡ Some d)

-- Contents of disks hold a sound pool, by the state s, whatever stop left them: each of its places has the drive that it had in f. No log is damaged,
-- what is pending brings just this state, its slices are those of t, and its arrays have the sectors that they had and hold what these give once that is written.
pub record Recovers (f : Found) (t : Slices) (s : State) (i : Image) : Type 0 where
  pub now : Found
  pub found_is : found f.disks i ≡ Some now
  pub sound : IsSoundPool now
  pub logs : HasSoundLogs f.disks i
  pub state : now.state ≡ s
  pub seats : (p : ℕ) → is_current s p ≡ true → now.seats p ≡ f.seats p
  pub slices : HaveSlices now t
  pub joined : now.state.joined ≡ now.state.made
  pub alone : NoStraySuperblock now now.contents
  pub sectors : (n : ℕ) → n < f.state.made → array_sectors now n ≡ array_sectors f n
  -- once that is written the slices give this state, and its arrays their truths and shapes
  pub is_state : state_in (replayed (sectors_of t) (sliced t i)) ≡ Some s
  pub truths : (n : ℕ) → n < f.state.made → truth_of now n ≡ truth_in s (replayed (sectors_of t) (sliced t i)) n
  pub shapes : (n : ℕ) → n < f.state.made → shape_of now n ≡ shape_in s (replayed (sectors_of t) (sliced t i)) n
  pub values : (n x : ℕ) → n < f.state.made → arrays_held now n x ≡ arrays_in (replayed (sectors_of t) (sliced t i)) n x

-- They hold it so, nothing is pending, and each current place has its drive.
pub record RecoversIdle (f : Found) (t : Slices) (s : State) (i : Image) : Type 0 where
  pub still : Recovers f t s i
  pub present : HavePlaces s still.now
  pub idle : (before : Standing) → standing f.disks i ≡ Some before → before.targets ≡ []

-- A drive of a pool g, which is found after f: its table is as good as it was, it has a copy of the state, and its log is well formed.
pub record HasSoundParts (f g : Found) (p d : ℕ) : Type 0 where
  pub table : has_table g p d ≡ has_table f p d
  pub copy : is_some (g.identities d).copied ≡ true
  pub log : has_log g p ≡ true

-- By this state the truth of an array in contents leaves no row to resync where that of the pool leaves none.
abbrev pub LeavesClean : Found → State → ℕ → Image → Type 0
LeavesClean f s n r = (t u : Super) → truth_of f n ≡ Some t → is_unclean t ≡ false → truth_in s r n ≡ Some u → is_unclean u ≡ false

-- Such a pool, whose arrays hold what those of f do, where they are ready for the volume: so their group is the same, and the lowest bad array.
-- Where none is bad they make the same volumes. No place is absent, and of each drive the table is as it was, and the copy and the log are sound.
-- Each array that is ready for the volume has the shape that it had: the same members count, as far as they did, so it is too few just where it was.
pub record RecoversSameVolume (f : Found) (t : Slices) (s : State) (i : Image) : Type 0 where
  pub again : RecoversIdle f t s i
  pub sectors : (n : ℕ) → n < f.state.joined → array_sectors again.still.now n ≡ array_sectors f n
  pub values : (n x : ℕ) → n < f.state.joined → x < array_sectors f n → arrays_held again.still.now n x ≡ arrays_held f n x
  pub group : group_of again.still.now ≡ group_of f
  pub bad : first_bad (joined_arrays again.still.now) ≡ first_bad (joined_arrays f)
  pub present : absent_count again.still.now ≡ 0
  pub parts : (p d : ℕ) → is_current s p ≡ true → f.seats p ≡ Some d → HasSoundParts f again.still.now p d
  pub shapes : (n : ℕ) → n < f.state.joined → shape_of again.still.now n ≡ shape_of f n
  pub volumes : first_bad (joined_arrays f) ≡ None → AreSame (volumes_of f) (volumes_of again.still.now)
