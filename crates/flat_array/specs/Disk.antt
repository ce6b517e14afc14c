-- The flat array in memory.
use Rattle.std.specs.Prelude.{◌≡◌, ℕ, ◌<◌, ◌-◌, List, [], length, drop, replicate, slice_get}
use Rattle.std.specs.Option.{option_map_or}
use Rattle.rack.specs.Values.{all_of}
use Rattle.flat_array.specs.declared.disk.FlatDisk.{FlatDisk}
use Rattle.flat_array.specs.Array.{FlatArray}

-- a sector of zeros
unfoldable pub zero_sector : List ℕ
zero_sector = replicate 512 0

-- the sectors of a disk
abbrev pub size_of : FlatDisk → ℕ
size_of disk = length disk.sectors.items

-- the values that a disk has kept of a sector, oldest first; none past its end
abbrev pub kept_at : FlatDisk → ℕ → List (List ℕ)
kept_at disk sector = option_map_or (λ kept. kept.items) (slice_get disk.sectors.items sector) []

-- a disk holds an array: its sectors, and all values of each
pub record DiskIs (disk : FlatDisk) (a : FlatArray) : Type 0 where
  pub size : size_of disk ≡ a.size
  pub values : (s : ℕ) → s < a.size → kept_at disk s ≡ all_of (a.values s)

-- the last one of values alone
abbrev pub last_alone : List (List ℕ) → List (List ℕ)
last_alone values = drop (length values - 1) values
