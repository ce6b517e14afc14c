-- The volume group of a pool as its arrays' contents say it, and the volume that it keeps.
use Rattle.std.specs.Prelude.{ℕ, ◌+◌, ◌*◌, ◌^◌, ◌==◌, ◌&&◌, ◌||◌, Bool, true, false, nat_le, nat_lt, not, is_some, bytes_eq, min, max, if◌then◌else◌, List, [], ◌∷◌, length, map, Option, Some, None, option_map}
use Rattle.std.specs.Option.{option_map_or}
use Rattle.std.specs.List.{find, list_all, list_any, range_with_len}
use Rattle.rack.specs.Seen.{Image}
use Rattle.lvm_label.specs.declared.label.Label.{Label}
use Rattle.lvm_text.specs.declared.group.SegmentKind.{SegmentKind}
use Rattle.lvm_text.specs.declared.group.SegmentKind.TheVariants as kind
use Rattle.lvm_text.specs.declared.group.Segment.{Segment}
use Rattle.lvm_text.specs.declared.group.Pv.{Pv}
use Rattle.lvm_text.specs.declared.group.Lv.{Lv}
use Rattle.lvm_text.specs.declared.group.Group.{Group}
use Rattle.lvm_group.specs.declared.runs.Run.{Run}
use Rattle.lvm_group.specs.Runs.{Linear, data_start}
use Rattle.lvm_group.specs.Shown.{contents_of}
use Rattle.lvm_group.specs.Ids.{group_id, pv_id, lv_id, label_id, text_id, group_name, lv_name, array_named}
use Rattle.lvm_group.specs.declared.parts.Part.{Part}
use Rattle.lvm_group.specs.Parts.{part_of, has_bad_text}

-- ---- which text counts

-- a group, unless another one has a higher seqno
abbrev pub ahead : Group → Option Group → Option Group
ahead g None = Some g
ahead g (Some h) = if nat_lt g.seqno h.seqno then Some h else Some g

-- of some groups the one of highest seqno, of equal ones the first
unfoldable pub highest : List (Option Group) → Option Group
highest [] = None
highest (None ∷ others) = highest others
highest (Some g ∷ others) = ahead g (highest others)

-- of two groups in a row the one of highest seqno, of equal ones the first
abbrev pub newer : Option Group → Option Group → Option Group
newer None o = o
newer (Some g) None = Some g
newer (Some g) (Some h) = if nat_lt g.seqno h.seqno then Some h else Some g

abbrev pub seqno_of : Option Group → Option ℕ
seqno_of o = option_map (λ (g : Group). g.seqno) o

-- the parts of the joined arrays
abbrev pub parts_in : Image → (ℕ → ℕ) → ℕ → List Part
parts_in c sectors joined = map (λ array. part_of (c array) (sectors array)) (range_with_len 0 joined)

-- the group text of the joined arrays
abbrev pub group_in : Image → (ℕ → ℕ) → ℕ → Option Group
group_in c sectors joined = highest (map (λ part. part.group) (parts_in c sectors joined))

-- ---- the volume of a group

-- the run of a segment, where it is linear on the physical volume of an array
abbrev pub run_by : ℕ → ℕ → SegmentKind → Option Run
run_by start count (kind.Linear pv first) = option_map (λ array. record { start = start; count = count; array = array; first = first }) (array_named pv)
run_by start count kind.Other = None

abbrev pub run_in : Segment → Option Run
run_in segment = run_by segment.start segment.count segment.kind

abbrev pub with_run : Option Run → List Run → List Run
with_run (Some run) runs = run ∷ runs
with_run None runs = runs

unfoldable pub runs_from : List Segment → List Run
runs_from [] = []
runs_from (segment ∷ segments) = with_run (run_in segment) (runs_from segments)

-- the runs of the first logical volume
abbrev pub runs_in : List Lv → List Run
runs_in [] = []
runs_in (lv ∷ others) = runs_from lv.segments

-- the volume of a group over the first arrays, so many
abbrev pub linear_in : ℕ → Group → Linear
linear_in joined g = record { extent = g.extent_size; arrays = joined; runs = runs_in g.lvs }

-- the contents of the volume, by those of the arrays alone
abbrev pub volume_in : Image → (ℕ → ℕ) → ℕ → Option Image
volume_in c sectors joined = option_map (λ g. contents_of (linear_in joined g) c) (group_in c sectors joined)

-- ---- the groups that the pool writes

-- a physical volume has the name of an array's
abbrev pub names : ℕ → Pv → Bool
names array pv = option_map_or (λ n. n == array) (array_named pv.name) false

-- the physical volume of an array in the group
abbrev pub pv_of : List Pv → ℕ → Option Pv
pv_of pvs array = find (names array) pvs

-- a physical volume of a joined array, which holds its extents
abbrev pub is_pv_of : List ℕ → ℕ → (ℕ → ℕ) → ℕ → Pv → ℕ → Bool
is_pv_of pool extent sectors joined pv array =
    nat_lt array joined && (bytes_eq pv.id (text_id (pv_id pool array)) && ((pv.pe_start == data_start) && nat_le (data_start + pv.pe_count * extent) (sectors array)))

abbrev pub is_pv : List ℕ → ℕ → (ℕ → ℕ) → ℕ → Pv → Bool
is_pv pool extent sectors joined pv = option_map_or (is_pv_of pool extent sectors joined pv) (array_named pv.name) false

-- no two have one name
unfoldable pub differ : List Pv → Bool
differ [] = true
differ (pv ∷ others) = not (list_any (λ (other : Pv). bytes_eq other.name pv.name) others) && differ others

-- the segments are linear and follow each other from this extent on
unfoldable pub follow : ℕ → List Segment → Bool
follow start [] = true
follow start (segment ∷ others) = (segment.start == start) && (is_some (run_in segment) && follow (start + segment.count) others)

-- a run lies in the physical volume of its array
abbrev pub lies_in : List Pv → Run → Bool
lies_in pvs run = option_map_or (λ (pv : Pv). nat_le (run.first + run.count) pv.pe_count) (pv_of pvs run.array) false

-- two runs share no extent of an array
abbrev pub are_apart : Run → Run → Bool
are_apart run other = not (run.array == other.array) || nat_le (min (run.first + run.count) (other.first + other.count)) (max run.first other.first)

unfoldable pub all_apart : List Run → Bool
all_apart [] = true
all_apart (run ∷ others) = list_all (are_apart run) others && all_apart others

-- at most so many segments
abbrev pub most_segments : ℕ
most_segments = 1024

-- it has the pool's name and id
abbrev pub has_own_name : List ℕ → Lv → Bool
has_own_name pool lv = bytes_eq lv.name lv_name && bytes_eq lv.id (text_id (lv_id pool))

abbrev pub is_lv : List ℕ → List Pv → Lv → Bool
is_lv pool pvs lv =
    has_own_name pool lv && (nat_le (length lv.segments) most_segments
    && (follow 0 lv.segments && (list_all (lies_in pvs) (runs_from lv.segments) && all_apart (runs_from lv.segments))))

-- the group has one logical volume, and it is the pool's
abbrev pub is_only_lv : List ℕ → List Pv → List Lv → Bool
is_only_lv pool pvs (lv ∷ []) = is_lv pool pvs lv
is_only_lv pool pvs lvs = false

-- the group has the pool's name and id, its size of an extent, and a seqno with room
abbrev pub has_own_head : List ℕ → ℕ → Group → Bool
has_own_head pool extent g =
    bytes_eq g.name group_name && (bytes_eq g.id (text_id (group_id pool)) && ((g.extent_size == extent) && nat_lt g.seqno (2 ^ 63)))

-- a group as the pool writes it
abbrev pub is_own_group : List ℕ → ℕ → (ℕ → ℕ) → ℕ → Group → Bool
is_own_group pool extent sectors joined g =
    has_own_head pool extent g && (list_all (is_pv pool extent sectors joined) g.pvs && (differ g.pvs && is_only_lv pool g.pvs g.lvs))

-- ---- bad arrays

-- an array has a label with its id, and a header
abbrev pub has_own_label : List ℕ → ℕ → Part → Bool
has_own_label pool array part =
    option_map_or (λ (label : Label). bytes_eq label.pv_id (label_id (pv_id pool array))) part.label false && is_some part.header

-- the group names an array
abbrev pub names_array : Group → ℕ → Bool
names_array g array = is_some (pv_of g.pvs array)

-- a bad text; named without a label of its id and a header; or, of array 0, a group that isn't the pool's
abbrev pub is_bad_by : List ℕ → ℕ → (ℕ → ℕ) → ℕ → Option Group → ℕ → Part → Bool
is_bad_by pool extent sectors joined group array part =
    has_bad_text part
    || ((option_map_or (λ g. names_array g array) group false && not (has_own_label pool array part))
    || ((array == 0) && not (option_map_or (is_own_group pool extent sectors joined) group false)))

abbrev pub is_bad : List ℕ → ℕ → (ℕ → ℕ) → ℕ → Image → ℕ → Bool
is_bad pool extent sectors joined c array = is_bad_by pool extent sectors joined (group_in c sectors joined) array (part_of (c array) (sectors array))

-- the lowest bad array
unfoldable pub first_bad : List ℕ → ℕ → (ℕ → ℕ) → ℕ → Image → Option ℕ
first_bad pool extent sectors joined c = find (is_bad pool extent sectors joined c) (range_with_len 0 joined)
