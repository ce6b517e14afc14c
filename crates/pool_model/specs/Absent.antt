-- A pool that any one of its drives may be taken from.
use Rattle.std.specs.Prelude.{◌≡◌, ◌≢◌, ℕ, ◌<◌, ◌^◌, true, false, not, nat_lt, if◌then◌else◌, [], length, slice_get, Some, None}
use Rattle.std.specs.List.{list_all}
use Rattle.rack.specs.Seen.{Image, RackView}
use Rattle.slice_rack.specs.Slices.{Slices, sectors_of}
use Rattle.slice_rack.specs.Sliced.{sliced}
use Rattle.md_super.specs.declared.superblock.Super.{Super}
use Rattle.pool_state.specs.declared.contents.Copied.{Copied}
use Rattle.pool_state.specs.declared.contents.State.{State}
use Rattle.array_image.specs.Arrays.{arrays_in, replayed}
use Rattle.array_image.specs.Left.{IsLeft}
use Rattle.array_image.specs.Record.{Gate, gate_in}
use Rattle.array_image.specs.States.{is_current}
use Rattle.array_model.specs.declared.Seat.TheVariants.{Whole}
use Rattle.array_model.specs.View.{rows_of, sectors_of as sectors_in}
use Rattle.raid_laws.specs.Agreeing.{AgreeLeaving}
use Rattle.raid_laws.specs.Raid.{Raid}
use Rattle.pool_image.specs.Book.{IsWhole, book_of}
use Rattle.pool_image.specs.Disks.{Disks, Identity, stands_for}
use Rattle.pool_image.specs.Drives.{Found, found}
use Rattle.pool_image.specs.Meaning.{absent_count, has_table, refusal_of, super_at, truth_of}
use Rattle.pool_image.specs.Sound.{IsSafeInAbsence, IsSoundState}
use Rattle.pool_model.specs.Left.{RecoversIdle}

-- A place's drive is the only disk that stands for the place.
abbrev pub AreOnly : Found → Type 0
AreOnly f = (p d e : ℕ) → f.seats p ≡ Some d → e < f.disks.count → stands_for f.state (f.identities e) ≡ Some p → e ≡ d

-- The gates of current places are closed. (One closed gate of the highest number says that nothing is pending; without its drive it says nothing.)
abbrev pub AreClosed : Found → Type 0
AreClosed f = (p : ℕ) (g : Gate) → is_current f.before.state p ≡ true → gate_in f.before.logs p ≡ Some g → g.is_open ≡ false

-- The superblocks of an array have the events of its truth.
abbrev pub AreLevel : Found → Type 0
AreLevel f =
    (n p : ℕ) (t u : Super) → n < f.state.made → truth_of f n ≡ Some t → is_current f.state p ≡ true → super_at f n p ≡ Some u
    → u.events ≡ t.events

-- Contents of whole sectors that aren't refused, and their pool: its parts agree, each place has its drive, nothing is left to resync,
-- to rebuild or to zero, and its drives say so alike.
pub record IsWholePool (disks : Disks) (c : Image) (f : Found) : Type 0 where
  pub sectors : (d s : ℕ) → d < disks.count → s < disks.sectors d → length (c d s) ≡ 512
  pub small : (d : ℕ) → d < disks.count → disks.sectors d < 2 ^ 48
  pub means : refusal_of disks c ≡ None
  pub is_found : found disks c ≡ Some f
  pub sound : IsSoundState f
  pub whole : IsWhole (book_of f)
  pub present : absent_count f ≡ 0
  pub only : AreOnly f
  pub closed : AreClosed f
  pub level : AreLevel f

-- A disk that is no drive of a pool: it stands for no place that has a drive, and it says no other pool's state.
pub record IsApart (f : Found) (z : Identity) : Type 0 where
  pub stands : (p d : ℕ) → f.seats p ≡ Some d → stands_for f.state z ≢ Some p
  pub pool : (copy : Copied) → z.copied ≡ Some copy → copy.state.pool ≡ f.state.pool

-- What disks had of a pool: each of its drives had a table with its slices, and all other disks were apart from it.
pub record StandsAlone (f : Found) : Type 0 where
  pub tables : (p d : ℕ) → f.seats p ≡ Some d → has_table f p d ≡ true
  pub others : (d : ℕ) → ((p : ℕ) → f.seats p ≡ Some d → ⊥) → d < f.disks.count → IsApart f (f.identities d)

-- The book of a pool of so many arrays is whole: all drives are current, each member of an array is whole, none is young, and no row is left to resync.
pub record IsWholeRaid (made : ℕ) (v : Raid) : Type 0 where
  pub drives : list_all (λ drive. not drive.missing) v.state.drives.items ≡ true
  pub seats : (n k : ℕ) → n < made → k < (v.arrays n).truth.raid_disks → slice_get (v.arrays n).seats k ≡ Some Whole
  pub old : (n : ℕ) → n < made → (v.arrays n).young ≡ false
  pub synced : (n : ℕ) → n < made → (v.arrays n).resync ≡ rows_of (v.arrays n)

-- A served pool that has ended whole, by its book v and the slices y: whatever a stop leaves, superblocks agree.
pub record EndsWhole (f : Found) (v : Raid) (y : RackView) : Type 0 where
  pub alone : StandsAlone f
  pub book : IsWholeRaid f.state.made v
  pub agree : (n : ℕ) (r : Image) → n < f.state.made → IsLeft y r → AgreeLeaving (v.arrays n) v.state r n

-- what contents of the slices hold of the arrays of a book, and nothing past the arrays' ends
abbrev pub volume_arrays : Slices → Raid → Image → Image
volume_arrays t v i = λ n x. if nat_lt x (sectors_in (v.arrays n)) then arrays_in (replayed (sectors_of t) (sliced t i)) n x else []

-- Contents that such a pool leaves hold it again, and any one of its drives may be absent.
pub record HoldAbsent (f : Found) (t : Slices) (s : State) (i : Image) : Type 0 where
  pub again : RecoversIdle f t s i
  pub safe : IsSafeInAbsence f.disks i again.still.now
