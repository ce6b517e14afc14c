-- The group that the pool writes.
use Rattle.std.specs.Prelude.{◌≡◌, ℕ, ◌+◌, ◌*◌, ◌==◌, ◌≤◌, ◌&&◌, Bool, true, List, [], ◌∷◌, map, slice_get, Some}
use Rattle.lvm_text.specs.declared.group.Segment.{Segment}
use Rattle.lvm_text.specs.declared.group.Pv.{Pv}
use Rattle.lvm_text.specs.declared.group.Lv.{Lv}
use Rattle.lvm_text.specs.declared.group.Group.{Group}
use Rattle.lvm_text.specs.Printed.{linear}
use Rattle.lvm_group.specs.declared.runs.Run.{Run}
use Rattle.lvm_group.specs.Runs.{data_start}
use Rattle.lvm_group.specs.Ids.{group_id, pv_id, lv_id, text_id, group_name, lv_name, pv_name}

-- the physical volume of an array of so many sectors that has so many extents
abbrev pub own_pv : List ℕ → ℕ → ℕ → ℕ → Pv
own_pv pool sectors array number =
    record { name = pv_name array; id = text_id (pv_id pool array); dev_size = sectors; pe_start = data_start; pe_count = number }

-- those of the arrays from this one on, by their numbers of extents
unfoldable pub own_pvs : List ℕ → (ℕ → ℕ) → ℕ → List ℕ → List Pv
own_pvs pool sectors array [] = []
own_pvs pool sectors array (number ∷ others) = own_pv pool (sectors array) array number ∷ own_pvs pool sectors (array + 1) others

-- the segment of a run
abbrev pub segment_of : Run → Segment
segment_of run = record { start = run.start; count = run.count; kind = linear (pv_name run.array) run.first }

abbrev pub own_lv : List ℕ → List Run → Lv
own_lv pool runs = record { name = lv_name; id = text_id (lv_id pool); segments = map segment_of runs }

-- the group of a pool by its size of an extent, the arrays' sectors, the number of its text, the arrays' numbers of extents, and
-- the runs of its volume
abbrev pub own_group : List ℕ → ℕ → (ℕ → ℕ) → ℕ → List ℕ → List Run → Group
own_group pool extent sectors seqno numbers runs =
    record {
      name = group_name;
      id = text_id (group_id pool);
      seqno = seqno;
      extent_size = extent;
      pvs = own_pvs pool sectors 0 numbers;
      lvs = own_lv pool runs ∷ [];
    }

-- the runs follow each other from an extent of the volume on
unfoldable pub in_row : ℕ → List Run → Bool
in_row start [] = true
in_row start (run ∷ others) = (run.start == start) && in_row (start + run.count) others

-- arrays of so many sectors, from this one on, hold so many extents each
abbrev pub HoldAll : ℕ → (ℕ → ℕ) → ℕ → List ℕ → Type 0
HoldAll extent sectors array numbers =
    (place number : ℕ) → slice_get numbers place ≡ Some number → data_start + number * extent ≤ sectors (array + place)
