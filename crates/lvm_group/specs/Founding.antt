-- The group of a new volume that isn't written.
use Rattle.std.specs.Prelude.{◌≡◌, ℕ, ◌<◌, ◌≤◌, List, length, replicate, slice_index}
use Rattle.rack.specs.Seen.{Image}
use Rattle.lvm_group.specs.declared.founding.NewGroup.{NewGroup}
use Rattle.lvm_group.specs.Made.{new_sector, new_volume}
use Rattle.lvm_group.specs.Opening.{Means}
use Rattle.lvm_group.specs.Runs.{data_start}

abbrev pub pool_of : NewGroup → List ℕ
pool_of group = group.pool.0

abbrev pub extent_of : NewGroup → ℕ
extent_of group = group.extent

-- the sectors of its arrays, and their extents
abbrev pub sectors_of : NewGroup → List ℕ
sectors_of group = group.sectors.items

abbrev pub numbers_of : NewGroup → List ℕ
numbers_of group = group.numbers.items

-- the group of a pool, by the sectors and the extents of its arrays
pub record IsGroupOf (pool : List ℕ) (extent : ℕ) (sectors numbers : List ℕ) (group : NewGroup) : Type 0 where
  pub pool_is : pool_of group ≡ pool
  pub extent_is : extent_of group ≡ extent
  pub sectors_are : sectors_of group ≡ sectors
  pub numbers_are : numbers_of group ≡ numbers

-- the first arrays, as many as there are numbers, have these sizes
abbrev pub AreSized : List ℕ → (ℕ → ℕ) → List ℕ → Type 0
AreSized sizes sectors numbers = (array : ℕ) → array < length numbers → sectors array ≡ slice_index sizes array

-- before their first extents they hold what arrays of a new volume do
abbrev pub HoldNew : List ℕ → ℕ → List ℕ → List ℕ → Image → Type 0
HoldNew pool extent sizes numbers c =
    (array s : ℕ) → array < length numbers → s < data_start → c array s ≡ new_sector pool extent (slice_index sizes) numbers array s

-- Arrays of these sizes that hold a new volume's sectors mean its group and that volume, and none of them is bad. From their first
-- extents on these sectors are zeros.
pub record IsReadAgain (pool : List ℕ) (extent : ℕ) (sizes numbers : List ℕ) : Type 0 where
  pub means :
      (sectors : ℕ → ℕ) (c : Image) → 0 < length numbers → AreSized sizes sectors numbers → HoldNew pool extent sizes numbers c
      → Means pool extent (length numbers) sectors (new_volume extent numbers) 1 c
  pub blank : (array s : ℕ) → data_start ≤ s → new_sector pool extent (slice_index sizes) numbers array s ≡ replicate 512 0
