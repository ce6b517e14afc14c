-- Changes of the tables.
use Rattle.std.specs.Prelude.{◌≡◌, ◌≢◌, ◌==◌, if◌then◌else◌, ℕ, ◌+◌, ◌<◌, ◌≤◌, Option, Some, None}
use Rattle.rack.specs.Seen.{RackView}
use Rattle.slice_rack.specs.Slices.{Slices, seat_of, place_of, first_of, sectors_of}

-- no place has a disk
pub record IsEmpty (t : Slices) : Type 0 where
  pub seats : (place : ℕ) → seat_of t place ≡ None
  pub slices : (d : ℕ) → sectors_of t d ≡ 0

-- a place has got this disk or none, and no slices
pub record Seats (before after : Slices) (place : ℕ) (seat : Option ℕ) : Type 0 where
  pub seats : (p : ℕ) → seat_of after p ≡ (if p == place then seat else seat_of before p)
  pub cleared : (d : ℕ) → place_of d ≡ place → sectors_of after d ≡ 0
  pub firsts : (d : ℕ) → place_of d ≢ place → first_of after d ≡ first_of before d
  pub sectors : (d : ℕ) → place_of d ≢ place → sectors_of after d ≡ sectors_of before d

-- a slice has got these sectors
pub record Adds (before after : Slices) (at first sectors : ℕ) : Type 0 where
  pub seats : (place : ℕ) → seat_of after place ≡ seat_of before place
  pub firsts : (d : ℕ) → first_of after d ≡ (if d == at then first else first_of before d)
  pub sectors_are : (d : ℕ) → sectors_of after d ≡ (if d == at then sectors else sectors_of before d)

-- the slice would end past the disk of its place, or wouldn't
abbrev pub IsPast : Slices → RackView → (place first sectors : ℕ) → Type 0
IsPast t a place first sectors = (disk : ℕ) × (seat_of t place ≡ Some disk) × (a.sectors disk < first + sectors)

abbrev pub IsWithin : Slices → RackView → (place first sectors : ℕ) → Type 0
IsWithin t a place first sectors = (disk : ℕ) × (seat_of t place ≡ Some disk) × (first + sectors ≤ a.sectors disk)

-- some sectors share one with a slice
abbrev pub Shares : Slices → (d first sectors : ℕ) → Type 0
Shares t d first sectors = (s : ℕ) × ((u : ℕ) × (s < sectors) × (u < sectors_of t d) × (first + s ≡ first_of t d + u))

-- they share one with another slice of the place
abbrev pub Overlaps : Slices → (at first sectors : ℕ) → Type 0
Overlaps t at first sectors = (d : ℕ) × (place_of d ≡ place_of at) × (d ≢ at) × Shares t d first sectors

-- they share none
abbrev pub IsFree : Slices → (at first sectors : ℕ) → Type 0
IsFree t at first sectors = (d : ℕ) → place_of d ≡ place_of at → d ≢ at → Shares t d first sectors → ⊥
