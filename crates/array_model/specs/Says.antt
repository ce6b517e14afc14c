-- What replayed contents say of an array, and what calls keep of it.
use Rattle.std.specs.Prelude.{◌≡◌, ℕ, ◌+◌, ◌<◌, ◌≤◌, Bool, true, false, List, [], length, Some, None}
use Rattle.rack.specs.Values.{Values, MayLeave}
use Rattle.rack.specs.Seen.{Image, RackView, IsLive}
use Rattle.md_super.specs.declared.superblock.Super.{Super}
use Rattle.pool_state.specs.declared.contents.State.{State}
use Rattle.array_image.specs.Places.{member_slice, data_sector}
use Rattle.array_image.specs.Arrays.{Member, Shape, layout_at, replayed, shape_in, value_by}
use Rattle.array_image.specs.Stripes.{position_in, sector_in}
use Rattle.array_image.specs.States.{is_current}
use Rattle.array_image.specs.Supers.{super_in, truth_in}
use Rattle.array_image.specs.Held.{Among, current_in, source_in, IsSynced, held_by}
use Rattle.array_image.specs.Even.{AreEven}
use Rattle.array_image.specs.SoundArray.{array_fields, IsSoundArray}
use Rattle.array_model.specs.View.{View, place_at, shape_of, may_vary}
use Rattle.array_image.specs.Left.{Picks, IsLeft, NothingPending}

-- Replayed contents r say this shape of an array, by the marks of the state s, with superblocks that agree, and each sector
-- that isn't spent has one of its values.
pub record ImageShowsArray (s : State) (array : ℕ) (shape : Shape) (vals : ℕ → Values) (spent : ℕ → Bool) (r : Image) : Type 0 where
  pub shape_is : shape_in s r array ≡ Some shape
  pub value : (x : ℕ) → spent x ≡ false → MayLeave (vals x) (value_by shape r array x)
  pub is_sound : (t : Super) → truth_in s r array ≡ Some t → IsSoundArray s r array t

-- the sectors of an array's members that count can be called, and are told
abbrev pub IsOpen : Shape → ℕ → RackView → Type 0
IsOpen shape array x =
    (m : Member) (sector : ℕ) → Among m shape.members → sector < m.reach → IsLive x x (member_slice m.place array) (data_sector + sector)

-- the member whose own sector an array's sector is, by one shape, is a member by another
abbrev pub KeepsSource : Shape → Shape → ℕ → Type 0
KeepsSource durable noted y =
    (m : Member) → source_in (layout_at durable y) (sector_in (layout_at durable y) y) (position_in (layout_at durable y) y) durable.members ≡ Some m → Among m noted.members

-- What is kept between calls of array n, where its slices and the log slices are told. Images go by `durable`, its shape by the
-- marks of s; the run goes by `noted`, which lacks the places that answered Gone since. The first row left to resync is `resync`,
-- and `vary` tells whether its sectors may have several values.
pub record ShapeInvariant (s : State) (n : ℕ) (durable noted : Shape) (resync : ℕ) (vary : Bool) (vals : ℕ → Values) (spent : ℕ → Bool) (x : RackView)
    : Type 0 where
  pub open_slices : IsOpen durable n x
  pub open_left : IsOpen noted n x
  -- whatever a stop leaves says it
  pub says : (r : Image) → IsLeft x r → ImageShowsArray s n durable vals spent r
  -- replaying changes no member's data that is left
  pub still :
      (c : Image) → Picks x c → (m : Member) (sector : ℕ) → Among m noted.members → sector < m.reach
      → replayed x.sectors c (member_slice m.place n) (data_sector + sector) ≡ c (member_slice m.place n) (data_sector + sector)
  -- what its members hold by the marks is what its sectors hold, but those that answered Gone
  pub within : (y : ℕ) → spent y ≡ false → (u : List ℕ) → MayLeave (held_by durable x.held n y) u → KeepsSource durable noted y → MayLeave (vals y) u
  -- the members that are left give each sector's current value
  pub current : (y : ℕ) → spent y ≡ false → value_by noted (current_in x.held) n y ≡ (vals y).current
  -- they have whole sectors
  pub sized :
      (m : Member) (sector : ℕ) → Among m noted.members → sector < m.reach
      → length (x.held (member_slice m.place n) (data_sector + sector)).current ≡ 512
  -- and agree in whole rows
  pub even : AreEven noted n resync (current_in x.held)
  -- but where they may vary, members' sectors have one value
  pub settled : vary ≡ false → IsSynced noted n x.held

-- What the data of the members that are left holds, by this shape, whatever images say of the array.
pub record HoldsData (n : ℕ) (noted : Shape) (resync : ℕ) (vals : ℕ → Values) (spent : ℕ → Bool) (x : RackView) : Type 0 where
  pub open_left : IsOpen noted n x
  pub current : (y : ℕ) → spent y ≡ false → value_by noted (current_in x.held) n y ≡ (vals y).current
  pub sized :
      (m : Member) (sector : ℕ) → Among m noted.members → sector < m.reach
      → length (x.held (member_slice m.place n) (data_sector + sector)).current ≡ 512
  pub even : AreEven noted n resync (current_in x.held)

-- no current place but the members' has a valid superblock of an array
abbrev pub HasNoOthers : View → State → Image → Type 0
HasNoOthers v t e =
    (place : ℕ) → is_current t place ≡ true → ((n : ℕ) → n < v.truth.raid_disks → place_at v n ≡ place → ⊥)
    → super_in t e v.number place ≡ None

-- a superblock of this array from before, or this one: it differs in events and rows left to resync alone
pub record IsEarlier (t u : Super) : Type 0 where
  pub fields : record (array_fields t) { events = 0; resync_offset = 0 } ≡ record (array_fields u) { events = 0; resync_offset = 0 }
  pub events : t.events ≤ u.events

-- the same, by what contracts see of the array
pub record ArrayInvariant (s : State) (durable : Shape) (v : View) (vals : ℕ → Values) (spent : ℕ → Bool) (x : RackView) : Type 0 where
  pub shape : ShapeInvariant s v.number durable (shape_of v) v.resync (may_vary v) vals spent x
  -- the mark is durable: whatever a stop leaves has no row that must agree
  pub mark : v.marked ≡ true → (r : Image) → IsLeft x r → (t : Super) → truth_in s r v.number ≡ Some t → t.resync_offset ≡ 0
  -- no superblock stands on another current place than its members'
  pub alone : (r : Image) → IsLeft x r → HasNoOthers v s r
  -- where nobody went, nothing is pending for the array's slices, so they may be written past the log
  pub closed : v.went ≡ [] → NothingPending v.number x
  -- no image has a later superblock than the run
  pub truth : (r : Image) → IsLeft x r → (t : Super) → truth_in s r v.number ≡ Some t → IsEarlier t v.truth
