-- The pool that seated disks make, and what a rack shows of it.
use Rattle.std.specs.Prelude.{◌≡◌, ◌⊎◌, ℕ, ◌*◌, ◌<◌, ◌≤◌, ◌^◌, Bool, true, false, List, get_or, length, slice_get, Option, Some, None}
use Rattle.std.specs.Option.{option_map_or}
use Rattle.rack.specs.Seen.{Image, RackView, Rose}
use Rattle.gpt_table.specs.Changes.{the_table}
use Rattle.gpt_table.specs.Disk.{AgreesUnspent}
use Rattle.pool_state.specs.declared.contents.State.{State}
use Rattle.array_image.specs.States.{is_current}
use Rattle.pool_image.specs.Disks.{Disks, Identities, Seats}
use Rattle.pool_image.specs.Replay.{Standing}
use Rattle.pool_image.specs.Drives.{Found}
use Rattle.pool_scan.specs.declared.Known.{Known}
use Rattle.pool_scan.specs.Scanning.{copied_at}

-- the disk of each place, by a list
abbrev pub seats_by : List (Option ℕ) → Seats
seats_by seats place = option_map_or (λ seat. seat) (slice_get seats place) None

-- the flag of each place, by a list
abbrev pub flag_by : List Bool → ℕ → Bool
flag_by flags place = get_or flags place false

-- what the drives of a pool are, but for its state and its seats
pub record Drives : Type 0 where
  pub disks : Disks
  pub before : Standing
  pub contents : Image
  pub identities : Identities

-- the pool of these drives
abbrev pub found_with : State → Seats → Drives → Found
found_with s seats o =
    record { disks = o.disks; before = o.before; contents = o.contents; identities = o.identities; state = s; seats = seats }

-- Seats are disks of the rack, on current places alone. Disks have fewer than 2^48 sectors.
pub record IsSeating (x : RackView) (s : State) (seats : Seats) : Type 0 where
  pub inside : (place d : ℕ) → seats place ≡ Some d → d < x.disks
  pub current : (place d : ℕ) → seats place ≡ Some d → is_current s place ≡ true
  pub small : (d : ℕ) → d < x.disks → x.sectors d < 2 ^ 48

-- as valid states are: extents of whole multiples of 128 sectors, at most 16 places and 16 arrays
pub record IsFitState (s : State) : Type 0 where
  pub chunks : ℕ
  pub extent : s.extent ≡ 128 * chunks
  pub some : 0 < s.extent
  pub few : length s.drives.items ≤ 16
  pub made : s.made ≤ 16

-- only places that are current have a disk, of the first 16
pub record HasFewPlaces (s : State) (seats : Seats) : Type 0 where
  pub few : length s.drives.items ≤ 16
  pub current : (place d : ℕ) → seats place ≡ Some d → is_current s place ≡ true

-- The rack tells the seated disks, and the drives hold what these read as now; their tables are those that these contents have.
pub record AreDrivesOf (x : RackView) (seats : Seats) (o : Drives) : Type 0 where
  pub told : (place d : ℕ) → seats place ≡ Some d → x.told d
  pub sectors : (place d : ℕ) → seats place ≡ Some d → o.disks.sectors d ≡ x.sectors d
  pub contents : (place d : ℕ) → seats place ≡ Some d → AgreesUnspent x d (o.contents d)
  pub tables : (place d : ℕ) → seats place ≡ Some d → (o.identities d).table ≡ the_table (x.sectors d) (o.contents d)

-- their copies of the state are those that a scan read
pub record AreCopied (known : List Known) (seats : Seats) (o : Drives) : Type 0 where
  pub copied : (place d : ℕ) → seats place ≡ Some d → (o.identities d).copied ≡ copied_at known d

-- the disk of a place went in these calls
abbrev pub Goes : RackView → RackView → Seats → ℕ → Type 0
Goes x y seats place = (d : ℕ) × (seats place ≡ Some d) × Rose (x.faults d) (y.faults d)

-- seats are as before, but for places whose disks' faults rose
abbrev pub Loses : RackView → RackView → Seats → Seats → Type 0
Loses x y before after =
    (place : ℕ)
    → (after place ≡ before place) ⊎ ((after place ≡ None) × Goes x y before place)
