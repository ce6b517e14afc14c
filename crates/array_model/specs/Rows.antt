-- A write of one array sector: which sectors of its members it touches.
use Rattle.std.specs.Prelude.{◌≡◌, ◌==◌, if◌then◌else◌, false, ℕ, zero, suc, ◌+◌, ◌<◌, List, [], ◌∷◌, map, take, length, Option, Some, unwrap_or, true}
use Rattle.raid_map.specs.LeftSymmetric.{member_of, sector_of, parity_at}
use Rattle.rack.specs.Seen.{Image, RackView}
use Rattle.array_image.specs.Places.{member_slice, data_sector}
use Rattle.rack.specs.Targets.{Target, look}
use Rattle.array_image.specs.Stripes.{Layout, parity, width, sector_in, position_in, there, AgreeIn}
use Rattle.array_image.specs.Arrays.{Member, Shape, layout_at, stripe_in, value_by}
use Rattle.array_image.specs.Spent.{spent_by}
use Rattle.array_image.specs.Held.{Among, source_in, current_in}
use Rattle.rack.specs.Sequences.{IsPayload, OnlyReads}
use Rattle.array_model.specs.View.{View, shape_of, spent_in}
use Rattle.array_model.specs.Says.{IsOpen}
use Rattle.array_image.specs.Even.{AllCount, AreEven}
use Rattle.array_model.specs.Members.{Notes, Works}

abbrev pub source_at : Shape → ℕ → Option Member
source_at shape y = source_in (layout_at shape y) (sector_in (layout_at shape y) y) (position_in (layout_at shape y) y) shape.members

-- a member's sector of the data
abbrev pub sector_at : Shape → ℕ → ℕ
sector_at shape y = sector_in (layout_at shape y) y

-- the targets of a write of sector x to array n
pub record IsRow (shape : Shape) (n x : ℕ) (from : List ℕ) (xs : List Target) : Type 0 where
  -- they are whole sectors of its members' data
  pub own : (d t : ℕ) (u : List ℕ) → IsPayload xs d t u → (m : Member) × (k : ℕ) × (d ≡ member_slice m.place n) × (t ≡ data_sector + k) × Among m shape.members
  pub sized : (d t : ℕ) (u : List ℕ) → IsPayload xs d t u → length u ≡ 512
  -- of the array's sectors they change x alone
  pub alone :
      (y : ℕ) (m : Member) (u : List ℕ) → source_at shape y ≡ Some m → IsPayload xs (member_slice m.place n) (data_sector + sector_at shape y) u
      → (y ≡ x) × (u ≡ from)
  pub change : (m : Member) → source_at shape x ≡ Some m → look xs (member_slice m.place n) (data_sector + sector_at shape x) ≡ Some from

-- the member at a position
abbrev pub part_at : ℕ → List Member → Member
part_at k [] = record { place = 16; reach = 0; is_there = false; is_whole = false }
part_at zero (m ∷ others) = m
part_at (suc k) (m ∷ others) = part_at k others

-- an array that doesn't reshape, with its members on places of their own
pub record IsPlain (shape : Shape) (layout : Layout) : Type 0 where
  pub layout_is : (y : ℕ) → layout_at shape y ≡ layout
  pub count : length shape.members ≡ width layout
  pub apart :
      (j k : ℕ) → j < length shape.members → k < length shape.members → (part_at j shape.members).place ≡ (part_at k shape.members).place → j ≡ k

-- a sector of a member's data, and its bytes
abbrev pub target_on : ℕ → ℕ → List ℕ → Member → Target
target_on n sector v m = record { disk = member_slice m.place n; sector = data_sector + sector; bytes = v }

abbrev pub copies : Shape → ℕ → ℕ → List ℕ → List Target
copies shape n x from = map (target_on n x from) shape.members

-- contents with all targets written
abbrev pub written : List Target → Image → Image
written xs c d t = unwrap_or (look xs d t) (c d t)

-- a RAID-5 row's change: the sector and its parity
abbrev pub data_at : Shape → ℕ → ℕ → Member
data_at shape k x = part_at (member_of k x) shape.members

abbrev pub parity_part : Shape → ℕ → ℕ → Member
parity_part shape k x = part_at (parity_at k (sector_of k x)) shape.members

abbrev pub changed : Shape → ℕ → ℕ → ℕ → List ℕ → List ℕ → List Target
changed shape k n x from new = target_on n (sector_of k x) from (data_at shape k x) ∷ target_on n (sector_of k x) new (parity_part shape k x) ∷ []

-- the members of a stripe agree where a sector of the array stands
abbrev pub AgreeAt : Shape → ℕ → Image → ℕ → Type 0
AgreeAt shape n c y = AgreeIn (layout_at shape y) (there (stripe_in c n shape (layout_at shape y) (sector_at shape y)))

-- an array as a RAID-5 layout on its first members has it, which doesn't reshape
abbrev pub straight : Shape → ℕ → Shape
straight shape k = record { members = take k shape.members; size = shape.size; moved = parity k; layout = parity k; reached = 0 }

-- What targets that change sector x by one commit owe, by what the members hold before it.
pub record RowChange (shape : Shape) (n resync x : ℕ) (from : List ℕ) (cur : Image) (xs : List Target) : Type 0 where
  -- of the sectors that are an array's sector they change x alone
  pub alone :
      (y : ℕ) (m : Member) (u : List ℕ) → source_at shape y ≡ Some m → look xs (member_slice m.place n) (data_sector + sector_at shape y) ≡ Some u
      → (y ≡ x) × (u ≡ from)
  pub value : (y : ℕ) → spent_by shape resync y ≡ false → value_by shape (written xs cur) n y ≡ (if y == x then from else value_by shape cur n y)
  -- members that agree still do
  pub even : (y : ℕ) → AllCount (layout_at shape y) shape (sector_at shape y) → AgreeAt shape n cur y → AgreeAt shape n (written xs cur) y

-- What a write of sector x owes: the targets of its row change this sector alone, and the row agrees once they are written.
pub record Owes (v : View) (a : RackView) (x : ℕ) (from : List ℕ) (xs : List Target) : Type 0 where
  pub row : IsRow (shape_of v) v.number x from xs
  pub even :
      IsOpen (shape_of v) v.number a
      → ((m : Member) (t : ℕ) → Among m (shape_of v).members → t < m.reach → length (current_in a.held (member_slice m.place v.number) (data_sector + t)) ≡ 512)
      → AreEven (shape_of v) v.number v.resync (current_in a.held) → AreEven (shape_of v) v.number v.resync (written xs (current_in a.held))

-- How a write past the log ended: it found its sector spent, or its targets are written but on members that went.
pub data Wrote (v w : View) (a b : RackView) (x : ℕ) (from : List ℕ) : Type 0 where
  refused : OnlyReads a b → Notes v w a b → spent_in w x ≡ true → Wrote v w a b x from
  row : (xs : List Target) → Works v w a b xs → Owes v a x from xs → Wrote v w a b x from
