-- Contents that hold the book of a pool, and a run that stands by it.
use Rattle.std.proofs.Common.{◌≡◌, ℕ, ◌+◌, ◌<◌, ◌≤◌, Bool, true, false, List, length, Some, ◌&&◌, not, nat_lt, if◌then◌else◌, [], ◌||◌}
use Rattle.rack.specs.Values.{Values, MayLeave}
use Rattle.rack.specs.Seen.{Image, RackView}
use Rattle.md_super.specs.declared.superblock.Super.{Super}
use Rattle.array_image.specs.Places.{member_slice, data_sector}
use Rattle.array_image.specs.Arrays.{Member, Shape, replayed, value_by}
use Rattle.array_image.specs.Even.{AreEven}
use Rattle.array_image.specs.Held.{Among, current_in, held_by, IsSynced}
use Rattle.array_image.specs.Left.{NothingPending, Picks}
use Rattle.array_image.specs.SoundArray.{first_unsynced}
use Rattle.array_image.specs.States.{is_current}
use Rattle.array_image.specs.Stripes.{capacity, sector_in}
use Rattle.raid_map.specs.LeftSymmetric.{row_at}
use Rattle.array_image.specs.Supers.{is_reshaping, truth_in}
use Rattle.array_model.specs.ArrayCalls.{IncludesSpent}
use Rattle.array_model.specs.Says.{HasNoOthers, IsEarlier, IsOpen, KeepsSource, ImageShowsArray}
use Rattle.array_model.specs.View.{may_vary, shape_of, View}
use Rattle.log_laws.specs.Kept.{LogInvariant}
use Rattle.log_laws.specs.Saying.{HoldsCopies, RecoversTo}
use Rattle.pool_state.specs.declared.contents.State.{State}
use Rattle.raid_laws.specs.Frames.{Frame, frame_of}
use Rattle.array_core.specs.Contents.{lacking_in}
use Rattle.raid_laws.specs.Since.{AreEach, HoldsEach, IsSince, IsTakenSince}
use Rattle.raid_laws.specs.Moves.{AreMarked}
use Rattle.raid_laws.specs.Raid.{AreLive, gone_in, is_failed, IsWritten, Raid}

-- Copies came of the state that calls began with, or of one by which places get other drives.
pub data Origin : Type 0 where
  begun : State → Origin
  taking : (new : ℕ → Bool) → (early next : State) → Origin

abbrev pub IsFrom : Origin → ℕ → List ℕ → Type 0
IsFrom (begun s) p block = IsSince s p block
IsFrom (taking new early next) p block = IsTakenSince new early next p block

-- What is promised of images: of which arrays, but for which sectors, and of which arrays rows to resync, since the run hasn't written them.
pub record Promise : Type 0 where
  pub live : ℕ → Bool
  -- one of these
  pub one : ℕ
  pub spent : ℕ → ℕ → Bool
  -- of each book those sectors alone that its arrays have, since these may get more
  pub growing : Bool
  pub kept : ℕ → Bool
  -- and of which such as lack a member
  pub lacks : ℕ → Bool
  -- what copies of the state are, as they stand
  pub origin : Origin

-- how many sectors of an array a reshape has moved
abbrev pub moved_to : Super → ℕ
moved_to t = if is_reshaping t then t.reshape_position else 0

-- Whether an array has a sector, by the frame of its truth, the sectors that a reshape has moved and the first row left to zero: it stands before the
-- array's end or is moved already and, in a young array, it is in a row that is zeroed.
abbrev pub is_sector : Frame → ℕ → Bool → ℕ → ℕ → Bool
is_sector f moved young zeroed y = (nat_lt y (capacity f.layout f.size) || nat_lt y moved) && (not young || nat_lt (row_at (sector_in f.layout y)) zeroed)

abbrev pub has_sector : View → ℕ → Bool
has_sector u y = is_sector (frame_of u.truth) (moved_to u.truth) u.young (first_unsynced u.truth) y

-- what isn't promised of array n of a book
abbrev pub spent_at : Promise → ℕ → View → ℕ → Bool
spent_at p n u y = (p.growing && not (has_sector u y)) || p.spent n y

-- How many rows of an array a promise has: of a young one, where of each book its arrays' sectors alone are promised, those that are zeroed.
abbrev pub rows_for : Promise → View → ℕ
rows_for p w = if p.growing && w.young then first_unsynced w.truth else w.resync

-- The array as a promise has it: rows left to zero are rows left to resync.
abbrev pub view_for : Promise → View → View
view_for p w = record w { young = w.young && not p.growing; resync = rows_for p w }

-- It can be kept until the run is this.
pub record IsPromised (p : Promise) (w : Raid) : Type 0 where
  pub is_one : p.live p.one ≡ true
  pub goes : (n : ℕ) → p.live n ≡ true → n < w.state.made → is_failed w n ≡ false
  pub covers : (n : ℕ) → p.live n ≡ true → n < w.state.made → IncludesSpent (w.arrays n) (spent_at p n (w.arrays n))

-- Replayed contents show array n, such as a book of this state has it: its shape, by superblocks that agree, and each sector that isn't spent has one of
-- its values. Unless it is young, they leave no rows to resync but the book's where it isn't written, and where it lacks a member.
pub record ShowsArray (s : State) (u : View) (p : Promise) (n : ℕ) (vals : ℕ → Values) (r : Image) : Type 0 where
  pub says : ImageShowsArray s n (shape_of u) vals (spent_at p n u) r
  pub rows : u.young ≡ false → p.kept n ≡ true → (t : Super) → truth_in s r n ≡ Some t → u.resync ≤ first_unsynced t
  pub lacks : u.young ≡ false → p.lacks n ≡ true → 0 < lacking_in (shape_of u) → (t : Super) → truth_in s r n ≡ Some t → u.resync ≤ first_unsynced t

-- So do those that a stop between calls leaves; their superblocks are the book's or earlier ones, and nobody else has one.
pub record RestsArray (s : State) (u : View) (p : Promise) (n : ℕ) (vals : ℕ → Values) (r : Image) : Type 0 where
  pub shows : ShowsArray s u p n vals r
  pub truth : (t : Super) → truth_in s r n ≡ Some t → IsEarlier t u.truth
  -- a mark of the run's is durable
  pub mark : u.marked ≡ true → (t : Super) → truth_in s r n ≡ Some t → t.resync_offset ≡ 0
  pub alone : HasNoOthers u s r

abbrev pub ShowsArrays : Raid → Promise → (ℕ → ℕ → Values) → Image → Type 0
ShowsArrays v p vals r = (n : ℕ) → p.live n ≡ true → n < v.state.made → ShowsArray v.state (v.arrays n) p n (vals n) r

abbrev pub RestsArrays : Raid → Promise → (ℕ → ℕ → Values) → Image → Type 0
RestsArrays v p vals r = (n : ℕ) → p.live n ≡ true → n < v.state.made → RestsArray v.state (v.arrays n) p n (vals n) r

-- Contents hold a book: their log slices say its state, and once replayed they show its arrays.
pub record HoldsBook (v : Raid) (p : Promise) (vals : ℕ → ℕ → Values) (sectors : ℕ → ℕ) (c : Image) : Type 0 where
  pub log : RecoversTo v.state sectors c
  pub since : AreEach (IsFrom p.origin) sectors c
  pub arrays : ShowsArrays v p vals (replayed sectors c)

-- ---- a run

-- What the members of array n hold, whatever images say of it: these go by `durable`, the run by `noted`.
pub record HoldsMembers (n : ℕ) (durable noted : Shape) (resync : ℕ) (vary : Bool) (vals : ℕ → Values) (spent : ℕ → Bool) (x : RackView) : Type 0 where
  pub open_slices : IsOpen durable n x
  pub open_left : IsOpen noted n x
  pub still :
      (c : Image) → Picks x c → (m : Member) (sector : ℕ) → Among m noted.members → sector < m.reach
      → replayed x.sectors c (member_slice m.place n) (data_sector + sector) ≡ c (member_slice m.place n) (data_sector + sector)
  pub within : (y : ℕ) → spent y ≡ false → (u : List ℕ) → MayLeave (held_by durable x.held n y) u → KeepsSource durable noted y → MayLeave (vals y) u
  pub current : (y : ℕ) → spent y ≡ false → value_by noted (current_in x.held) n y ≡ (vals y).current
  pub sized :
      (m : Member) (sector : ℕ) → Among m noted.members → sector < m.reach
      → length (x.held (member_slice m.place n) (data_sector + sector)).current ≡ 512
  pub even : AreEven noted n resync (current_in x.held)
  pub settled : vary ≡ false → IsSynced noted n x.held

-- an array of the run has what the book has of it, but for events, rows that its truth leaves, and the mark
pub record IsSameArrayAs (u w : View) : Type 0 where
  pub shape : shape_of w ≡ shape_of u
  pub frame : frame_of w.truth ≡ frame_of u.truth
  pub resync : w.resync ≡ u.resync
  pub young : w.young ≡ u.young

-- nobody has gone of the places that are current by a state
abbrev pub AreLeftBy : State → Raid → Type 0
AreLeftBy s v = (place : ℕ) → is_current s place ≡ true → gone_in v place ≡ false

-- array n of a run, w, whose images go by u
pub record StandsArray (u w : View) (n : ℕ) (vals : ℕ → Values) (p : Promise) (x : RackView) : Type 0 where
  pub number : w.number ≡ n
  pub book_number : u.number ≡ n
  pub few : n < 16
  pub written : IsWritten w
  pub members : HoldsMembers n (shape_of u) (shape_of w) (rows_for p w) (may_vary w) vals (spent_at p n u) x
  -- where sectors of a young one are promised, its members' sectors have one value
  pub single : (p.growing && w.young) ≡ true → IsSynced (shape_of w) n x.held
  pub closed : w.went ≡ [] → NothingPending n x
  -- the run's own truth is no earlier one
  pub truth : IsEarlier u.truth w.truth
  pub mark : w.marked ≡ true → u.marked ≡ true
  pub roles : w.truth.roles.items ≡ u.truth.roles.items
  pub disks : w.truth.raid_disks ≡ u.truth.raid_disks
  pub sectors : (y : ℕ) → has_sector w y ≡ has_sector u y

-- A run v stands over slices whose images hold the book d, but for drives that are gone from it and not marked yet.
pub record Stands (d v : Raid) (p : Promise) (vals : ℕ → ℕ → Values) (x : RackView) : Type 0 where
  pub few : d.state.joined < 17
  pub one : p.one < d.state.made
  pub log : LogInvariant d.state v.number (gone_in v) x
  pub someone : (place : ℕ) × (is_current d.state place ≡ true) × (gone_in v place ≡ false)
  pub copies : HoldsCopies d.state x
  pub since : HoldsEach (IsFrom p.origin) x
  pub same : v.state ≡ d.state
  pub images : (c : Image) → Picks x c → RestsArrays d p vals (replayed x.sectors c)
  pub arrays : (n : ℕ) → p.live n ≡ true → n < d.state.made → StandsArray (d.arrays n) (v.arrays n) n (vals n) p x
  -- where whoever went is marked, the run has the book's arrays
  pub alike : AreMarked v → (n : ℕ) → p.live n ≡ true → n < d.state.made → IsSameArrayAs (d.arrays n) (v.arrays n)
  pub slices : AreLive d.state.made x
