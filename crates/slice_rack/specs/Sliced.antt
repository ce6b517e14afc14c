-- A rack of slices as a rack: each sector is one of the rack below.
use Rattle.std.specs.Prelude.{◌≡◌, ℕ, ◌+◌, ◌<◌, ◌≤◌, ◌^◌, nat_lt, if◌then◌else◌, [], Some}
use Rattle.rack.specs.Seen.{Image, RackView}
use Rattle.slice_rack.specs.Slices.{Slices, seat_of, disk_of, first_of, sectors_of}

-- the slices lie inside the disks below, which all have fewer than 2^48 sectors
pub record IsInside (t : Slices) (a : RackView) : Type 0 where
  pub small : (disk : ℕ) → disk < a.disks → a.sectors disk < 2 ^ 48
  pub seats : (place disk : ℕ) → seat_of t place ≡ Some disk → disk < a.disks
  pub slices : (d : ℕ) → 0 < sectors_of t d → first_of t d + sectors_of t d ≤ a.sectors (disk_of t d)

-- the contents of the slices are those of their sectors below; where no slice is they are no sector
abbrev pub sliced : Slices → Image → Image
sliced t below d s = if nat_lt s (sectors_of t d) then below (disk_of t d) (first_of t d + s) else []

abbrev pub Shows : Slices → Image → Image → Type 0
Shows t below c = (d s : ℕ) → c d s ≡ sliced t below d s

-- the slices of a rack
abbrev pub slices_of : Slices → RackView → RackView
slices_of t a = record {
  disks = 272;
  sectors = sectors_of t;
  held = λ d s. a.held (disk_of t d) (first_of t d + s);
  clock = a.clock;
  stops = λ k c. (below : Image) × a.stops k below × Shows t below c;
  faults = λ d. a.faults (disk_of t d);
  spent = λ d s. a.spent (disk_of t d) (first_of t d + s);
  lasting = a.lasting;
  steady = a.steady;
  fit = a.fit × IsInside t a;
  told = λ d. a.told (disk_of t d);
  traced = a.traced;
}
