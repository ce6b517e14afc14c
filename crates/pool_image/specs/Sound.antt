-- Contents that agree with themselves, rule by rule, and those that are excused.
use Rattle.std.specs.Prelude.{◌≡◌, ◌↔◌, ◌⊎◌, ℕ, ◌+◌, ◌-◌, ◌*◌, ◌%◌, ◌<◌, ◌≤◌, ◌^◌, Bool, true, false, ◌==◌, ◌&&◌, ◌||◌, not, nat_lt, nat_eq, if◌then◌else◌, List, [], ◌∷◌, length, count_by, slice_get, Option, Some, is_some, is_none, IfSome}
use Rattle.std.specs.Option.{option_map_or}
use Rattle.std.specs.List.{range_with_len, starts_with, AllByRecursion}
use Rattle.rack.specs.Seen.{Image}
use Rattle.parity.specs.Xor.{zeros}
use Rattle.md_super.specs.declared.superblock.Super.{Super}
use Rattle.pool_state.specs.declared.contents.Copied.{Copied}
use Rattle.pool_state.specs.declared.contents.Drive.{Drive}
use Rattle.lvm_label.specs.declared.label.Label.{Label}
use Rattle.lvm_label.specs.declared.header.Header.{Header}
use Rattle.lvm_label.specs.declared.header.Location.{Location}
use Rattle.lvm_label.specs.Label.{label_word, label_bytes}
use Rattle.lvm_text.specs.declared.group.Group.{Group}
use Rattle.array_image.specs.Places.{drive_id, pv_id, member_slice, data_sector}
use Rattle.array_image.specs.Record.{Gate, gate_in}
use Rattle.array_image.specs.States.{is_current}
use Rattle.array_image.specs.Supers.{is_reshaping, has_role, named_places}
use Rattle.array_image.specs.Arrays.{Shape}
use Rattle.array_image.specs.SoundArray.{IsSoundArray}
use Rattle.pool_image.specs.Disks.{Disks}
use Rattle.pool_image.specs.Drives.{Found, found, slices_of}
use Rattle.lvm_group.specs.Group.{run_in}
use Rattle.lvm_group.specs.Ids.{label_id}
use Rattle.pool_image.specs.Volumes.{group_on, header_at, header_sector, label_on, all_segments, text_limit}
use Rattle.pool_image.specs.Meaning.{Volume, meaning, truth_of, shape_of, super_at, is_member, has_slice_of, arrays_held, array_sectors, joined_arrays, group_of}
use Rattle.pool_image.specs.Book.{Book, book_of, is_planned, is_rebuilding_at, planned, top_of, used_by, used_in}

-- ---- words on the list of drives

abbrev pub drive_at : Found → ℕ → Option Drive
drive_at f place = slice_get f.state.drives.items place

-- how many drives that pass have units above the highest top
abbrev pub above_top : Found → (ℕ → Bool) → ℕ
above_top f passes =
    count_by
    (λ place. passes place && option_map_or (λ drive. nat_lt (top_of f f.state.made) drive.units) (drive_at f place) false)
    (range_with_len 0 (length f.state.drives.items))

-- the plan's drive reaches an array and isn't a member of it so far
pub record HasToJoin (f : Found) (n place : ℕ) : Type 0 where
  pub array : n < f.state.made
  pub is_planned : is_planned f.state place ≡ true
  pub reaches : (drive : Drive) → drive_at f place ≡ Some drive → top_of f (n + 1) ≤ drive.units
  pub no_member : is_member f n place ≡ false

-- ---- the rules

-- 1. Arrays, and states that agree.
pub record IsSoundState (f : Found) : Type 0 where
  pub arrays : (n : ℕ) → n < f.state.made → (t : Super) × (truth_of f n ≡ Some t) × IsSoundArray f.state (slices_of f) n t
  -- the last array alone may be young, and under a plan alone
  pub joined : is_none (planned f.state.plan) ≡ true → f.state.joined ≡ f.state.made
  -- valid copies of the highest epoch differ in their own place alone, on whatever disk
  pub copies :
      (d : ℕ) (copy : Copied) → d < f.disks.count → (f.identities d).copied ≡ Some copy → copy.state.epoch ≡ f.state.epoch → copy.state ≡ f.state
  -- and each current drive has that epoch
  pub epochs :
      (place d : ℕ) (copy : Copied) → f.seats place ≡ Some d → (f.identities d).copied ≡ Some copy → copy.state.epoch ≡ f.state.epoch

-- 2. A drive is a member of the arrays that it reaches, but for those that the plan's drive has still to join. Ids come from serials.
pub record IsSoundList (f : Found) : Type 0 where
  pub members :
      (n place : ℕ) (drive : Drive) → n < f.state.made → drive_at f place ≡ Some drive
      → ((is_member f n place ≡ true) ↔ (top_of f (n + 1) ≤ drive.units)) ⊎ HasToJoin f n place
  pub serial : ℕ → ℕ
  pub ids :
      (place : ℕ) (drive : Drive) → drive_at f place ≡ Some drive
      → (serial place < f.state.serial) × (drive.id.0 ≡ drive_id f.state.pool.0 (serial place))
  pub no_two :
      (place other : ℕ) → place < length f.state.drives.items → other < length f.state.drives.items
      → serial place ≡ serial other → place ≡ other

-- 3. Units are tops, and one drive alone may stand out.
pub record HasSoundTops (f : Found) : Type 0 where
  pub tops :
      (place : ℕ) (drive : Drive) → drive_at f place ≡ Some drive
      → ((n : ℕ) × (n < f.state.made) × (drive.units ≡ top_of f (n + 1))) ⊎ (top_of f f.state.made ≤ drive.units)
  pub one_other : above_top f (λ place. not (is_planned f.state place)) ≤ 1
  pub one_at_all : (is_none (planned f.state.plan) || (f.state.made == 16)) ≡ true → above_top f (λ place. true) ≤ 1

-- What growth says of a book: the extents that each array is to have in the volume at the plan's end, and whether the group has
-- room for so many segments.
pub record Growth : Type 0 where
  pub target : Book → ℕ → ℕ
  pub fits : Group → (ℕ → ℕ) → Bool

-- a label as the pool writes it, but for the device's size
abbrev pub written_label : Found → ℕ → ℕ → Label
written_label f n size = record {
  pv_id = label_id (pv_id f.state.pool.0 n);
  device_size = size;
  areas = record { items = record { offset = 1048576; size = 0 } ∷ [] };
  metadata = record { items = record { offset = 4096; size = 1044480 } ∷ [] };
}

-- a location of a text as the pool writes it
pub record IsWrittenLocation (l : Location) : Type 0 where
  pub offset : l.offset % 512 ≡ 0
  pub behind_header : 512 ≤ l.offset
  pub few : l.size ≤ text_limit

-- what stands for the group at the start of a joined array
pub record HasSoundHead (f : Found) (n : ℕ) : Type 0 where
  pub no_label_first : starts_with nat_eq (arrays_held f n 0) label_word ≡ false
  pub label : (l : Label) → label_on (joined_arrays f) n ≡ Some l → (size : ℕ) × (arrays_held f n 1 ≡ label_bytes (written_label f n size))
  pub one_location : (h : Header) → header_at (joined_arrays f) n header_sector ≡ Some h → length h.locations.items ≤ 1
  pub no_label : (h : Header) → header_at (joined_arrays f) n header_sector ≡ Some h → is_none (label_on (joined_arrays f) n) ≡ true → h.locations.items ≡ []
  pub location : (h : Header) → header_at (joined_arrays f) n header_sector ≡ Some h → AllByRecursion IsWrittenLocation h.locations.items

-- nothing but a drive's loss keeps an array from being as the plan's end has it
pub record IsSettledArray (growth : Growth) (f : Found) (n : ℕ) : Type 0 where
  pub extents : used_in f n ≡ growth.target (book_of f) n
  pub no_reshape : (t : Super) → truth_of f n ≡ Some t → is_reshaping t ≡ false
  pub no_rebuild : (place : ℕ) → is_rebuilding_at f n place ≡ false

-- 4. The volume, and what stands for it on the arrays.
pub record HasSoundVolume (growth : Growth) (f : Found) : Type 0 where
  pub extents : (n : ℕ) → n < f.state.made → used_in f n ≤ growth.target (book_of f) n
  pub room : option_map_or (λ g. growth.fits g (growth.target (book_of f))) (group_of f) false ≡ true
  pub settled : is_none (planned f.state.plan) ≡ true → (n : ℕ) → n < f.state.made → IsSettledArray growth f n
  -- the extents of an array in the volume are its first ones
  pub first_extents :
      (g : Group) → group_of f ≡ Some g → (n : ℕ)
      → AllByRecursion (λ segment. IfSome (run_in segment) (λ run. run.array ≡ n → 0 < run.count → run.first + run.count ≤ used_by g n)) (all_segments g)
  pub heads : (n : ℕ) → n < f.state.joined → HasSoundHead f n

-- 5. The plan's drive alone is rebuilding or joining. While it is current its table has its slice of each array that it has still to
-- join, where no valid superblock stands.
pub record HasSoundPlan (f : Found) : Type 0 where
  pub rebuilding : (n place : ℕ) → n < f.state.made → is_rebuilding_at f n place ≡ true → is_planned f.state place ≡ true
  pub joining :
      (n place : ℕ) (t : Super) → n < f.state.made → truth_of f n ≡ Some t → is_reshaping t ≡ true
      → has_role t (t.raid_disks - 1) place ≡ true → is_planned f.state place ≡ true
  pub entries :
      (n place d : ℕ) → HasToJoin f n place → f.seats place ≡ Some d
      → option_map_or (λ table. has_slice_of f (f.disks.sectors d) table (n + 1)) (f.identities d).table false ≡ true
  pub no_super : (n place : ℕ) → HasToJoin f n place → is_none (super_at f n place) ≡ true

-- 6. Numbers that rise have room.
pub record HasRoomInNumbers (f : Found) : Type 0 where
  pub epoch : f.state.epoch < 2 ^ 62
  pub events : (n place : ℕ) (t : Super) → n < f.state.made → is_current f.state place ≡ true → super_at f n place ≡ Some t → t.events < 2 ^ 62
  pub gates : (place : ℕ) (g : Gate) → is_current f.state place ≡ true → gate_in (slices_of f) place ≡ Some g → g.number < 2 ^ 62
  pub seqno : (n : ℕ) (g : Group) → n < f.state.joined → group_on (joined_arrays f) n ≡ Some g → g.seqno < 2 ^ 62

-- 8. Sectors that no extent uses hold zeros: of a joined array behind its extents, in a reshape up to the rows that are moved; and of a
-- young array the rows that aren't left to zero, on each current member. (Rule 7, that rows agree, is one of each array's.)
pub record HasZeros (f : Found) : Type 0 where
  pub joined :
      (n x : ℕ) (shape : Shape) → n < f.state.joined → shape_of f n ≡ Some shape
      → 2048 + used_in f n * f.state.extent ≤ x → (x < array_sectors f n) ⊎ (x < shape.reached)
      → arrays_held f n x ≡ zeros 512
  pub young :
      (n place s : ℕ) (t : Super) → f.state.joined ≤ n → n < f.state.made → truth_of f n ≡ Some t
      → is_member f n place ≡ true → is_some (f.seats place) ≡ true → s < t.size → s < t.resync_offset
      → slices_of f (member_slice place n) (data_sector + s) ≡ zeros 512

-- all rules but the one on numbers
pub record IsSoundButNumbers (growth : Growth) (f : Found) : Type 0 where
  pub state : IsSoundState f
  pub list : IsSoundList f
  pub tops : HasSoundTops f
  pub volume : HasSoundVolume growth f
  pub plan : HasSoundPlan f
  pub zero_sectors : HasZeros f

-- contents of whole sectors that have a meaning, and this pool, whose parts agree
pub record IsSound (growth : Growth) (disks : Disks) (c : Image) (f : Found) : Type 0 where
  pub sectors : (d s : ℕ) → d < disks.count → s < disks.sectors d → length (c d s) ≡ 512
  pub means : is_some (meaning disks c) ≡ true
  pub is_found : found disks c ≡ Some f
  pub rules : IsSoundButNumbers growth f
  pub numbers : HasRoomInNumbers f

-- ---- excused contents

-- a place that an array's truth names is marked missing, or its own superblock says that it is rebuilding
abbrev pub is_lost : Found → ℕ → ℕ → Bool
is_lost f n place = not (is_current f.state place) || is_rebuilding_at f n place

abbrev pub lost_in : Found → ℕ → ℕ
lost_in f n = option_map_or (λ t. count_by (is_lost f n) (named_places t)) (truth_of f n) 0

-- An image that its own marks excuse, where the pool's book has so many rows of each array left to resync, or that a stop leaves
-- once nobody is left to write a mark on.
abbrev pub IsExcused : (ℕ → ℕ) → Type 0 → Found → Type 0
IsExcused resync nobody_left f = nobody_left ⊎ ((n : ℕ) × (n < f.state.made) × ((1 < lost_in f n) ⊎ ((0 < lost_in f n) × (0 < resync n))))

-- ---- absence

-- the disks without one
abbrev pub skip : ℕ → ℕ → ℕ
skip disk d = if nat_lt d disk then d else d + 1

abbrev pub disks_without : ℕ → Disks → Disks
disks_without disk disks = record { count = disks.count - 1; sectors = λ d. disks.sectors (skip disk d) }

abbrev pub image_without : ℕ → Image → Image
image_without disk c = λ d. c (skip disk d)

-- two meanings are the same: as many volumes, each of the same sectors
abbrev pub AreSame : List Volume → List Volume → Type 0
AreSame [] [] = Unit {0}
AreSame [] (v ∷ vs) = ⊥
AreSame (v ∷ vs) [] = ⊥
AreSame (v ∷ vs) (w ∷ ws) = ((v.sectors ≡ w.sectors) × ((s : ℕ) → s < v.sectors → v.contents s ≡ w.contents s)) × AreSame vs ws

-- contents whose meaning any one drive may be taken from
pub record IsSafeInAbsence (disks : Disks) (c : Image) (f : Found) : Type 0 where
  pub is_found : found disks c ≡ Some f
  pub volumes : List Volume
  pub means : meaning disks c ≡ Some volumes
  pub without :
      (place d : ℕ) → place < length f.state.drives.items → f.seats place ≡ Some d
      → (others : List Volume) × (meaning (disks_without d disks) (image_without d c) ≡ Some others) × AreSame volumes others
