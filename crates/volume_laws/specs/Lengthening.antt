-- A volume that gets sectors behind those that it has: its map, its arrays, and the flat array that it holds.
use Rattle.std.specs.Prelude.{◌≡◌, ℕ, ◌+◌, ◌*◌, ◌<◌, ◌≤◌, Bool, false, List, nat_lt, if◌then◌else◌}
use Rattle.rack.specs.Seen.{RackView}
use Rattle.rack.specs.Values.{Keeps, MayLeave, only}
use Rattle.parity.specs.Xor.{zeros}
use Rattle.flat_array.specs.Array.{FlatArray}
use Rattle.lvm_group.specs.Extending.{KeepsPlaces}
use Rattle.lvm_group.specs.Growth.{reach}
use Rattle.lvm_group.specs.Runs.{data_start, Linear, sectors_in}
use Rattle.lvm_group.specs.Shown.{volume_of}

-- ---- maps and arrays

-- Each sector of the one map stays on its array's sector in the other, which has no fewer.
pub record GoesOn (l m : Linear) : Type 0 where
  pub places : KeepsPlaces l m
  pub longer : sectors_in l ≤ sectors_in m

-- What must be told in b for the volume of the map m to be told: all arrays of that map. They are where those of the map l were told in a, and where a sector can be
-- had that m has besides those of l.
pub record TellsArrays (l m : Linear) (a b : RackView) : Type 0 where
  pub old : (volume_of l a).told 0 → (volume_of m b).told 0
  pub new : (s : ℕ) → sectors_in l ≤ s → s < sectors_in m → (volume_of m b).spent 0 s ≡ false → (volume_of m b).told 0

-- a disk holds nothing but zeros in each sector from this one on that isn't spent
abbrev pub HoldsZeros : RackView → (d first : ℕ) → Type 0
HoldsZeros x d first = (s : ℕ) → first ≤ s → s < x.sectors d → x.spent d s ≡ false → Keeps (only (zeros 512)) (x.held d s)

-- the sector of an array that lies behind the extents that a volume has on it
abbrev pub end_of : Linear → ℕ → ℕ
end_of l n = data_start + reach n l.runs * l.extent

-- ---- as flat arrays

-- an array with so many sectors, and zeros behind those that it had
abbrev pub lengthened : ℕ → FlatArray → FlatArray
lengthened size a = record { size = size; values = λ s. if nat_lt s a.size then a.values s else only (zeros 512) }

-- The first disk of a rack holds an array, of which older values may have been dropped, in the sectors that aren't spent.
pub record HoldsArray (x : RackView) (a : FlatArray) : Type 0 where
  -- where every sector is spent, nothing need be told
  pub told : (s : ℕ) → s < a.size → x.spent 0 s ≡ false → x.told 0
  pub size : a.size ≡ x.sectors 0
  pub values : (s : ℕ) → s < a.size → x.spent 0 s ≡ false → Keeps (a.values s) (x.held 0 s)

-- contents take one of an array's values in each sector that isn't spent
abbrev pub PicksLive : (ℕ → Bool) → FlatArray → (ℕ → List ℕ) → Type 0
PicksLive spent a contents = (s : ℕ) → s < a.size → spent s ≡ false → MayLeave (a.values s) (contents s)
