-- The data of a new pool's members.
use Rattle.std.specs.Prelude.{◌≡◌, ℕ, ◌+◌, ◌-◌, ◌*◌, ◌%◌, ◌<◌, true, List, length, map, slice_get, slice_index, Some}
use Rattle.std.specs.List.{range_with_len}
use Rattle.rack.specs.Seen.{RackView, IsLive}
use Rattle.gpt_table.specs.Disk.{now_on}
use Rattle.parity.specs.Xor.{xor_all}
use Rattle.raid_map.specs.LeftSymmetric.{StandsAt, parity_at, row_at}
use Rattle.array_image.specs.Places.{data_sector}
use Rattle.lvm_group.specs.declared.founding.NewGroup.{NewGroup}
use Rattle.lvm_group.specs.Founding.{IsGroupOf, IsReadAgain, extent_of, numbers_of, pool_of, sectors_of}
use Rattle.lvm_group.specs.Made.{new_sector}
use Rattle.pool_format.specs.declared.Birth.{Birth}
use Rattle.pool_format.specs.declared.planning.NewArray.{NewArray}
use Rattle.pool_format.specs.declared.planning.NewPool.{NewPool}
use Rattle.new_array.specs.Supers.{role_of}
use Rattle.pool_format.specs.Plan.{has}

-- ---- arrays

-- the sectors of each array, by number: the data of all its members but one
abbrev pub sizes_of : NewPool → List ℕ
sizes_of plan = map (λ a. (length a.members.items - 1) * a.size) plan.arrays.items

-- the extents of each array, by number
abbrev pub extents_of : NewPool → List ℕ
extents_of plan = map (λ a. a.extents) plan.arrays.items

-- what an array of a new pool holds: the group's label, header and text, and else zeros
abbrev pub array_sector : NewPool → Birth → ℕ → ℕ → List ℕ
array_sector plan birth number sector = new_sector birth.pool plan.extent (slice_index (sizes_of plan)) (extents_of plan) number sector

-- the group of a new pool
abbrev pub IsNewGroup : NewPool → Birth → NewGroup → Type 0
IsNewGroup plan birth group = IsGroupOf birth.pool plan.extent (sizes_of plan) (extents_of plan) group

-- arrays that hold what the plan says mean that group, and none of them is bad
abbrev pub IsGroupRead : NewPool → Birth → Type 0
IsGroupRead plan birth = IsReadAgain birth.pool plan.extent (sizes_of plan) (extents_of plan)

-- what an array of a group holds
abbrev pub group_sector : NewGroup → ℕ → ℕ → List ℕ
group_sector group number sector = new_sector (pool_of group) (extent_of group) (slice_index (sectors_of group)) (numbers_of group) number sector

-- ---- members

-- the array's sectors in the row of a sector of its members' data: one on each member but the parity's
abbrev pub row_sectors : ℕ → ℕ → List ℕ
row_sectors n sector = map (λ column. (row_at sector * (n - 1) + column) * 128 + sector % 128) (range_with_len 0 (n - 1))

-- The sector of a member's data, by its position, where an array of so many members holds these sectors: of a mirror the array's
-- own, of more members the one that stands there, or the XOR of those of its row.
pub record IsMemberData (n : ℕ) (array : ℕ → List ℕ) (position sector : ℕ) (v : List ℕ) : Type 0 where
  pub mirror : n ≡ 2 → v ≡ array sector
  pub own : 2 < n → (x : ℕ) → StandsAt n x position sector → v ≡ array x
  pub parity : 2 < n → position ≡ parity_at n sector → v ≡ xor_all 512 (map array (row_sectors n sector))

-- a sector of the data of a place's member of the array of a number
pub record IsDataOf (plan : NewPool) (place number sector : ℕ) : Type 0 where
  pub array : NewArray
  pub at : slice_get plan.arrays.items number ≡ Some array
  pub among : has array.members.items place ≡ true
  pub row : ℕ
  pub within : row < array.size
  pub sector_is : sector ≡ array.first + data_sector + row

-- what calls in a row leave in the live sectors of that data
abbrev pub LeavesData : NewPool → Birth → ℕ → ℕ → RackView → RackView → Type 0
LeavesData plan birth d n a b =
    (e : NewArray) → slice_get plan.arrays.items n ≡ Some e → has e.members.items d ≡ true → (s : ℕ) → s < e.size
    → IsLive a b d (e.first + data_sector + s)
    → IsMemberData (length e.members.items) (array_sector plan birth n) (role_of e.members.items d) s (now_on b d (e.first + data_sector + s))
