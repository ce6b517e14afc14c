-- The text that is written of a group, line by line (lvm2: lib/format_text/export.c).
use Rattle.std.specs.Prelude.{◌≡◌, ℕ, ◌+◌, ◌<◌, ◌≤◌, ◌==◌, ◌^◌, Bool, ◌||◌, List, [], ◌∷◌, ◌++◌, length, codes, decimal, IsTrue}
use Rattle.std.specs.List.{AllByRecursion, flat_map, list_all}
use Rattle.lvm_text.specs.declared.group.SegmentKind.{SegmentKind}
use Rattle.lvm_text.specs.declared.group.SegmentKind.TheVariants as kind
use Rattle.lvm_text.specs.declared.group.Segment.{Segment}
use Rattle.lvm_text.specs.declared.group.Pv.{Pv}
use Rattle.lvm_text.specs.declared.group.Lv.{Lv}
use Rattle.lvm_text.specs.declared.group.Group.{Group}
use Rattle.lvm_text.specs.Group.{segment_name}
use Rattle.lvm_text.specs.Words.{is_digit, is_letter, is_name_byte}

-- ---- lines

-- `key = 12`
unfoldable pub number_line : List ℕ → ℕ → List ℕ
number_line key n = key ++ codes " = " ++ decimal n ++ codes "\n"

-- `key = "text"`
unfoldable pub text_line : List ℕ → List ℕ → List ℕ
text_line key text = key ++ codes " = \"" ++ text ++ codes "\"\n"

-- `name {`, where a section begins
unfoldable pub opening : List ℕ → List ℕ
opening name = name ++ codes " {\n"

-- `}`, where it ends
abbrev pub closing : List ℕ
closing = codes "}\n"

-- ---- a physical volume

-- the device isn't told, and extents may be allocated
abbrev pub pv_marks : List ℕ
pv_marks = codes "device = \"unknown\"\nstatus = [\"ALLOCATABLE\"]\nflags = []\n"

unfoldable pub pv_text : Pv → List ℕ
pv_text pv =
    opening pv.name ++ text_line (codes "id") pv.id ++ pv_marks ++ number_line (codes "dev_size") pv.dev_size
    ++ number_line (codes "pe_start") pv.pe_start ++ number_line (codes "pe_count") pv.pe_count ++ closing

-- ---- a segment

-- linear is what is striped over one
abbrev pub striped_mark : List ℕ
striped_mark = codes "type = \"striped\"\nstripe_count = 1\n"

-- `stripes = ["pv", 12]`
unfoldable pub stripes_line : SegmentKind → List ℕ
stripes_line (kind.Linear pv first) = codes "stripes = [\"" ++ pv ++ codes "\", " ++ decimal first ++ codes "]\n"
stripes_line kind.Other = []

-- on one physical volume, from this extent on
abbrev pub linear : List ℕ → ℕ → SegmentKind
linear pv first = kind.Linear pv first

-- a segment under its number
unfoldable pub segment_text : ℕ → Segment → List ℕ
segment_text number segment =
    opening (segment_name number) ++ number_line (codes "start_extent") segment.start
    ++ number_line (codes "extent_count") segment.count ++ striped_mark ++ stripes_line segment.kind ++ closing

-- segments under their numbers, from this one on
unfoldable pub segments_text : ℕ → List Segment → List ℕ
segments_text number [] = []
segments_text number (segment ∷ segments) = segment_text number segment ++ segments_text (number + 1) segments

-- ---- a logical volume

-- it is seen, and may be read and written
abbrev pub lv_marks : List ℕ
lv_marks = codes "status = [\"READ\", \"WRITE\", \"VISIBLE\"]\nflags = []\n"

-- what stands before the segments of so many
unfoldable pub lv_head : List ℕ → List ℕ → ℕ → List ℕ
lv_head name id segments = opening name ++ text_line (codes "id") id ++ lv_marks ++ number_line (codes "segment_count") segments

unfoldable pub lv_text : Lv → List ℕ
lv_text lv =
    opening lv.name ++ text_line (codes "id") lv.id ++ lv_marks ++ number_line (codes "segment_count") (length lv.segments)
    ++ segments_text 1 lv.segments ++ closing

-- ---- the group

-- it may grow and be read and written
abbrev pub group_marks : List ℕ
group_marks = codes "format = \"lvm2\"\nstatus = [\"RESIZEABLE\", \"READ\", \"WRITE\"]\nflags = []\n"

-- no limits, and a copy of the text on each physical volume
abbrev pub group_limits : List ℕ
group_limits = codes "max_lv = 0\nmax_pv = 0\nmetadata_copies = 0\n"

-- what kind of text this is; a zero byte ends it
abbrev pub trailer : List ℕ
trailer = codes "contents = \"Text Format Volume Group\"\nversion = 1\n" ++ 0 ∷ []

-- what stands before its volumes
unfoldable pub group_head : Group → List ℕ
group_head group =
    opening group.name ++ text_line (codes "id") group.id ++ number_line (codes "seqno") group.seqno ++ group_marks
    ++ number_line (codes "extent_size") group.extent_size ++ group_limits

-- a group of this name, id, number and size of an extent, before its volumes are told
abbrev pub bare_group : List ℕ → List ℕ → ℕ → ℕ → Group
bare_group name id seqno extent_size = record { name = name; id = id; seqno = seqno; extent_size = extent_size; pvs = []; lvs = [] }

-- the whole text
unfoldable pub printed : Group → List ℕ
printed group =
    group_head group ++ opening (codes "physical_volumes") ++ flat_map pv_text group.pvs ++ closing
    ++ opening (codes "logical_volumes") ++ flat_map lv_text group.lvs ++ closing ++ closing ++ trailer

-- ---- what is written

-- 1 to 32 bytes of a name
pub record IsName (name : List ℕ) : Type 0 where
  pub some : 0 < length name
  pub short : length name ≤ 32
  pub bytes : IsTrue (list_all is_name_byte name)

-- a letter, a digit or `-`
abbrev pub is_id_byte : ℕ → Bool
is_id_byte byte = is_letter byte || is_digit byte || byte == 45

-- 32 characters in groups parted by `-`
pub record IsId (id : List ℕ) : Type 0 where
  pub long : length id ≡ 38
  pub bytes : IsTrue (list_all is_id_byte id)

pub record IsPrintablePv (pv : Pv) : Type 0 where
  pub name : IsName pv.name
  pub id : IsId pv.id

-- a linear segment, of a physical volume with a name
abbrev pub IsPrintableKind : SegmentKind → Type 0
IsPrintableKind (kind.Linear pv first) = IsName pv
IsPrintableKind kind.Other = ⊥

abbrev pub IsPrintableSegment : Segment → Type 0
IsPrintableSegment segment = IsPrintableKind segment.kind

pub record IsPrintableLv (lv : Lv) : Type 0 where
  pub name : IsName lv.name
  pub id : IsId lv.id
  pub segments : AllByRecursion IsPrintableSegment lv.segments

-- how many segments logical volumes have over all
unfoldable pub segment_total : List Lv → ℕ
segment_total [] = 0
segment_total (lv ∷ lvs) = length lv.segments + segment_total lvs

-- a group whose text is written: names and ids of their forms, linear segments, and no more of each than there is room for
pub record IsPrintable (group : Group) : Type 0 where
  pub name : IsName group.name
  pub id : IsId group.id
  pub few_pvs : length group.pvs ≤ 16
  pub few_lvs : length group.lvs ≤ 16
  pub few_segments : segment_total group.lvs ≤ 1024
  pub pvs : AllByRecursion IsPrintablePv group.pvs
  pub lvs : AllByRecursion IsPrintableLv group.lvs

-- ---- numbers of 64 bits

pub record PvInRange (pv : Pv) : Type 0 where
  pub dev_size : pv.dev_size < 2 ^ 64
  pub pe_start : pv.pe_start < 2 ^ 64
  pub pe_count : pv.pe_count < 2 ^ 64

abbrev pub KindInRange : SegmentKind → Type 0
KindInRange (kind.Linear pv first) = first < 2 ^ 64
KindInRange kind.Other = Unit {0}

pub record SegmentInRange (segment : Segment) : Type 0 where
  pub start : segment.start < 2 ^ 64
  pub count : segment.count < 2 ^ 64
  pub kind : KindInRange segment.kind

pub record LvInRange (lv : Lv) : Type 0 where
  pub count : length lv.segments < 2 ^ 64
  pub segments : AllByRecursion SegmentInRange lv.segments

pub record InRange (group : Group) : Type 0 where
  pub seqno : group.seqno < 2 ^ 64
  pub extent_size : group.extent_size < 2 ^ 64
  pub pvs : AllByRecursion PvInRange group.pvs
  pub lvs : AllByRecursion LvInRange group.lvs
