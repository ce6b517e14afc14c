-- A linear volume as a rack: each sector is one of an array below.
use Rattle.std.specs.Prelude.{◌≡◌, ℕ, zero, suc, ◌+◌, ◌*◌, ◌<◌, ◌≤◌, ◌^◌, nat_lt, if◌then◌else◌, []}
use Rattle.rack.specs.Seen.{Image, RackView}
use Rattle.lvm_group.specs.Runs.{Linear, place_of, data_start, extents_of, sectors_in, array_of, sector_of}

-- the sum over the first disks, so many
abbrev pub total : (ℕ → ℕ) → ℕ → ℕ
total f zero = 0
total f (suc disks) = total f disks + f disks

-- the extents lie inside the arrays, which have fewer than 2^52 sectors together
pub record IsInside (l : Linear) (a : RackView) : Type 0 where
  pub small : total a.sectors a.disks < 2 ^ 52
  pub arrays : l.arrays ≤ a.disks
  pub placed : (extent : ℕ) → extent < extents_of l.runs → (place_of l.runs extent).array < l.arrays
  pub held :
      (extent : ℕ) → extent < extents_of l.runs
      → data_start + (place_of l.runs extent).extent * l.extent + l.extent ≤ a.sectors (place_of l.runs extent).array

-- the contents of the volume by those of the arrays; past its end there is nothing
abbrev pub contents_of : Linear → Image → Image
contents_of l below = λ disk sector. if nat_lt sector (sectors_in l) then below (array_of l sector) (sector_of l sector) else []

-- the volume over a rack of arrays
abbrev pub volume_of : Linear → RackView → RackView
volume_of l a = record {
  disks = 1;
  sectors = λ disk. sectors_in l;
  held = λ disk sector. a.held (array_of l sector) (sector_of l sector);
  clock = a.clock;
  stops = λ k c. (below : Image) × a.stops k below × ((disk sector : ℕ) → c disk sector ≡ contents_of l below disk sector);
  faults = λ disk. total a.faults a.disks;
  spent = λ disk sector. a.spent (array_of l sector) (sector_of l sector);
  lasting = a.lasting;
  steady = a.steady;
  fit = a.fit × IsInside l a;
  told = λ disk. (array : ℕ) → array < l.arrays → a.told array;
  traced = a.traced;
}
