-- What a later opening makes of the contents that a stop leaves on a pool's disks.
use Rattle.std.specs.Prelude.{◌≡◌, ◌≢◌, ℕ, ◌<◌, true, false, [], ◌∷◌, length, Some, None}
use Rattle.rack.specs.Seen.{Image}
use Rattle.slice_rack.specs.Slices.{Slices, sectors_of}
use Rattle.slice_rack.specs.Sliced.{sliced}
use Rattle.pool_state.specs.declared.contents.Copied.{Copied}
use Rattle.md_super.specs.declared.superblock.Super.{Super}
use Rattle.array_image.specs.Arrays.{Shape, arrays_in, replayed}
use Rattle.array_image.specs.SoundArray.{array_fields, first_unsynced}
use Rattle.array_model.specs.View.{is_whole_array, rows_of, shape_of as shape_by_book}
use Rattle.raid_laws.specs.Raid.{Raid}
use Rattle.raid_laws.specs.Reach.{KeepsReach}
use Rattle.lvm_group.specs.Runs.{Linear, sectors_in}
use Rattle.lvm_group.specs.Shown.{contents_of}
use Rattle.pool_image.specs.Disks.{Disks}
use Rattle.pool_image.specs.Drives.{Found, found}
use Rattle.pool_image.specs.Meaning.{Refusal, Volume, absent, arrays_held, bad_volume, damaged, dirty_degraded, is_dirty_degraded, is_too_few, lacking_of, meaning, no_pool, refusal_of, shape_of, too_few, truth_of, two_pools}
use Rattle.pool_model.specs.Grouped.{HaveOwnAreas, IsVolumeOf}

-- contents of disks in whole sectors
abbrev pub AreWholeSectors : Disks → Image → Type 0
AreWholeSectors disks i = (d s : ℕ) → d < disks.count → s < disks.sectors d → length (i d s) ≡ 512

-- A disk that is no drive of a pool had another pool's state before its record was replayed.
pub record HasOtherPool (f : Found) : Type 0 where
  pub disk : ℕ
  pub low : disk < f.disks.count
  pub unseated : (p : ℕ) → f.seats p ≡ Some disk → ⊥
  pub copy : Copied
  pub says : (f.before.identities disk).copied ≡ Some copy
  pub other : copy.state.pool ≢ f.state.pool

-- Why a pool may be refused whose drives are there and sound, by the book v from before a call: a disk that is none of them is another pool's; its own superblocks and marks say of an
-- array that two members are lacking; or they say that one is, of an array that the book has rows left to resync in. So a mark that a write of the run made is no reason.
abbrev pub MayRefuse : Raid → Found → Refusal → Type 0
MayRefuse v f no_pool = ⊥
MayRefuse v f two_pools = HasOtherPool f
MayRefuse v f (absent count) = ⊥
MayRefuse v f (damaged place part) = ⊥
MayRefuse v f (too_few n) = is_too_few f n ≡ true
MayRefuse v f (dirty_degraded n) = (is_dirty_degraded f n ≡ true) × ((v.arrays n).young ≡ false → (v.arrays n).resync < rows_of (v.arrays n))
MayRefuse v f (bad_volume n) = ⊥

-- Why it may be where its arrays stand as in a book: two members of one are missing or being rebuilt by the book, or one is while the book has rows of the array left to resync.
-- So a mark that a write of the run made is no reason.
abbrev pub MayRefuseBy : Raid → Found → Refusal → Type 0
MayRefuseBy v f no_pool = ⊥
MayRefuseBy v f two_pools = HasOtherPool f
MayRefuseBy v f (absent count) = ⊥
MayRefuseBy v f (damaged place part) = ⊥
MayRefuseBy v f (too_few n) = (n < v.state.made) × (1 < lacking_of (shape_by_book (v.arrays n)))
MayRefuseBy v f (dirty_degraded n) =
    (n < v.state.made) × (0 < lacking_of (shape_by_book (v.arrays n))) × ((v.arrays n).young ≡ false → (v.arrays n).resync < rows_of (v.arrays n))
MayRefuseBy v f (bad_volume n) = ⊥

-- Contents of the disks of a pool have a pool whose volume lies so on its arrays; where they aren't refused they mean this volume, with what c has on the arrays.
pub record HoldVolumeBy (f : Found) (c : Image) (l : Linear) (i : Image) : Type 0 where
  pub now : Found
  pub found_is : found f.disks i ≡ Some now
  pub lies : IsVolumeOf now l
  pub areas : HaveOwnAreas now
  pub means :
      refusal_of f.disks i ≡ None
      → (volume : Volume) × (meaning f.disks i ≡ Some (volume ∷ [])) × (volume.sectors ≡ sectors_in l)
      × ((s : ℕ) → s < sectors_in l → volume.contents s ≡ contents_of l c 0 s)

-- They do so with what the slices hold once what is pending is written.
abbrev pub HoldVolume : Found → Slices → Linear → Image → Type 0
HoldVolume f t l i = HoldVolumeBy f (arrays_in (replayed (sectors_of t) (sliced t i))) l i

-- What a stop inside a call leaves of it, from the book v to the book w. Members on places that are current by it count at least as far as they did, and those on places that are
-- current after the call no further than then. It is refused for such a reason by v alone.
pub record NextOpenInCall (f : Found) (t : Slices) (l : Linear) (v w : Raid) (i : Image) : Type 0 where
  pub volume : HoldVolume f t l i
  pub reach :
      (n : ℕ) (shape : Shape) → n < v.state.made → shape_of volume.now n ≡ Some shape
      → KeepsReach volume.now.state (shape_by_book (v.arrays n)) shape × KeepsReach w.state shape (shape_by_book (w.arrays n))
  pub excused : (why : Refusal) → refusal_of f.disks i ≡ Some why → MayRefuse v volume.now why

-- Between calls they stand as a book has them: each array has its members, as far as they are rebuilt, and its truth has the fields of the book's. Where an array isn't whole by the book,
-- its truth leaves just the rows to resync that are left in it. They are refused for what the book says alone, or for another pool's disk.
pub record NextOpen (f : Found) (t : Slices) (l : Linear) (v : Raid) (i : Image) : Type 0 where
  pub volume : HoldVolume f t l i
  pub state : volume.now.state ≡ v.state
  pub shapes : (n : ℕ) → n < v.state.made → shape_of volume.now n ≡ Some (shape_by_book (v.arrays n))
  pub truths : (n : ℕ) (u : Super) → n < v.state.made → truth_of volume.now n ≡ Some u → array_fields u ≡ array_fields (v.arrays n).truth
  pub rows :
      (n : ℕ) (u : Super) → n < v.state.made → truth_of volume.now n ≡ Some u → (v.arrays n).young ≡ false → is_whole_array (v.arrays n) ≡ false
      → first_unsynced u ≡ (v.arrays n).resync
  pub excused : (why : Refusal) → refusal_of f.disks i ≡ Some why → MayRefuseBy v volume.now why

-- Contents that a stop inside the opening of a pool leaves on its disks aren't refused, and mean the volume that lies so on its arrays, with what these hold.
pub record HoldMeaning (f : Found) (l : Linear) (i : Image) : Type 0 where
  pub volume : HoldVolumeBy f (arrays_held f) l i
  pub unrefused : refusal_of f.disks i ≡ None
