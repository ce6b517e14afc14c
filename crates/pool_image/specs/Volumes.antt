-- The volume of a group as the arrays' contents say it. What bytes stand in an array for the group is said here once more, over whole
-- sectors; the rules of a group and its volume are those of lvm_group.
use Rattle.std.specs.Prelude.{ℕ, ◌+◌, ◌-◌, ◌*◌, ◌/◌, ◌%◌, Bool, ◌==◌, ◌&&◌, nat_le, nat_lt, min, if◌then◌else◌, List, ◌++◌, map, take, drop, find, Option, Some, None}
use Rattle.std.specs.Option.{option_and_then, option_map_or}
use Rattle.std.specs.Result.{result_ok}
use Rattle.std.specs.List.{flat_map, range_with_len}
use Rattle.rack.specs.Seen.{Image}
use Rattle.shr_base.specs.Crc.{lvm_crc_of}
use Rattle.lvm_label.specs.declared.label.Area.{Area}
use Rattle.lvm_label.specs.declared.label.Label.{Label}
use Rattle.lvm_label.specs.declared.header.Location.{Location}
use Rattle.lvm_label.specs.declared.header.Header.{Header}
use Rattle.lvm_label.specs.Label.{label_in}
use Rattle.lvm_label.specs.Header.{header_of}
use Rattle.lvm_text.specs.declared.group.Segment.{Segment}
use Rattle.lvm_text.specs.declared.group.Group.{Group}
use Rattle.lvm_text.specs.Group.{group_of}
use Rattle.lvm_group.specs.Parts.{area_of, location_in}
use Rattle.lvm_group.specs.Runs.{Linear, array_of, sector_of, sectors_in}
use Rattle.lvm_group.specs.Group.{highest, is_bad_by, linear_in, run_in}

-- The arrays of a pool that are ready for its volumes.
pub record Arrays : Type 0 where
  -- the pool's id, and the sectors of an extent
  pub pool : List ℕ
  pub extent : ℕ
  -- how many there are, the sectors of each, and what these hold
  pub joined : ℕ
  pub sectors : ℕ → ℕ
  pub contents : Image

-- ---- one array's part of the group (docs/FORMATS.md, 'Label and metadata header')

-- bytes of an array, from one on
abbrev pub bytes_in : Arrays → ℕ → ℕ → ℕ → List ℕ
bytes_in a n start count =
    take count (drop (start % 512) (flat_map (λ k. a.contents n (start / 512 + k)) (range_with_len 0 (count / 512 + 2))))

abbrev pub label_on : Arrays → ℕ → Option Label
label_on a n = result_ok (label_in 0 (map (a.contents n) (range_with_len 0 4)))

-- the header in a sector of the array
abbrev pub header_at : Arrays → ℕ → ℕ → Option Header
header_at a n sector = if nat_lt sector (a.sectors n) then result_ok (header_of (a.contents n sector)) else None

-- that at the start of an area, which begins with a whole sector
abbrev pub area_header : Arrays → ℕ → Area → Option Header
area_header a n area = if area.offset % 512 == 0 then header_at a n (area.offset / 512) else None

-- where the first metadata area of a label as the pool writes it begins
abbrev pub header_sector : ℕ
header_sector = 8

-- The array's header: where its label is valid that of the label's first area, and else that of the sector in which the pool writes it.
abbrev pub header_on : Arrays → ℕ → Option Header
header_on a n = option_map_or (λ label. option_and_then (area_header a n) (area_of (a.sectors n) label)) (label_on a n) (header_at a n header_sector)

-- the bytes of a location's text; past the end of the area they go on behind the header
abbrev pub text_bytes : Arrays → ℕ → Area → Location → List ℕ
text_bytes a n area location =
    let first = min location.size (area.size - location.offset) in
    bytes_in a n (area.offset + location.offset) first ++ bytes_in a n (area.offset + 512) (location.size - first)

-- the most bytes of a text
abbrev pub text_limit : ℕ
text_limit = 262144

-- a location inside the area, behind its header, and inside the array
abbrev pub is_inside : ℕ → Area → Location → Bool
is_inside sectors area location =
    nat_le 512 location.offset && (nat_lt location.offset area.size && (nat_le (512 + location.size) area.size
    && nat_le (area.offset + min (location.offset + location.size) area.size) (512 * sectors)))

-- the group at a location: one inside, of few bytes, with the right sum, and a text that can be read
abbrev pub group_at : Arrays → ℕ → Area → Location → Option Group
group_at a n area location =
    if is_inside (a.sectors n) area location && (nat_le location.size text_limit && (location.crc == lvm_crc_of (text_bytes a n area location)))
    then result_ok (group_of (text_bytes a n area location))
    else None

-- the group at the first location of an array's header, which a label alone gives an area to lie in
unfoldable pub group_on : Arrays → ℕ → Option Group
group_on a n =
    option_and_then (λ area. option_and_then (group_at a n area) (option_and_then location_in (header_on a n)))
    (option_and_then (area_of (a.sectors n)) (label_on a n))

-- ---- the group

-- that of highest seqno, of equal ones the lowest array's
unfoldable pub group_in : Arrays → Option Group
group_in a = highest (map (group_on a) (range_with_len 0 a.joined))

abbrev pub all_segments : Group → List Segment
all_segments g = flat_map (λ lv. lv.segments) g.lvs

-- how many extents of an array a segment has
abbrev pub extents_on : ℕ → Segment → ℕ
extents_on array segment = option_map_or (λ run. if run.array == array then run.count else 0) (run_in segment) 0

-- ---- the volume

-- the linear volume of the group
abbrev pub linear_of : Arrays → Group → Linear
linear_of a g = linear_in a.joined g

-- a sector of an array
pub record Spot : Type 0 where
  pub array : ℕ
  pub sector : ℕ

-- where a sector of a linear volume stands
abbrev pub spot_in : Linear → ℕ → Option Spot
spot_in l v = if nat_lt v (sectors_in l) then Some (record { array = array_of l v; sector = sector_of l v }) else None

-- ---- bad arrays

-- an array whose part of the group is bad, by the rules of lvm_group
unfoldable pub is_bad : Arrays → ℕ → Bool
is_bad a n =
    is_bad_by a.pool a.extent a.sectors a.joined (group_in a) n
    (record { label = label_on a n; header = header_on a n; group = group_on a n })

-- the lowest such array
abbrev pub first_bad : Arrays → Option ℕ
first_bad a = find (is_bad a) (range_with_len 0 a.joined)
