-- Which disk each place has, and which of its sectors each slice is.
use Rattle.std.specs.Prelude.{◌≡◌, ◌≢◌, ℕ, ◌+◌, ◌/◌, ◌<◌, List, Option, Some, None, slice_get, unwrap_or}
use Rattle.std.specs.Option.{option_map_or}
use Rattle.slice_rack.specs.declared.Slice.{Slice}

pub record Slices : Type 0 where
  -- the disk of each place
  pub seats : List (Option ℕ)
  -- the slices of place 0, then those of place 1, and so on
  pub slices : List Slice

-- the disk of a place
abbrev pub seat_of : Slices → ℕ → Option ℕ
seat_of t place = option_map_or (λ seat. seat) (slice_get t.seats place) None

-- the place of a slice, of which each has 17
abbrev pub place_of : ℕ → ℕ
place_of d = d / 17

-- the disk that a slice is on, where its place has one
abbrev pub disk_of : Slices → ℕ → ℕ
disk_of t d = unwrap_or (seat_of t (place_of d)) 0

-- the first sector of a slice on its disk
abbrev pub first_of : Slices → ℕ → ℕ
first_of t d = option_map_or (λ slice. slice.first) (slice_get t.slices d) 0

-- its number of sectors, 0 where there is no slice
abbrev pub sectors_of : Slices → ℕ → ℕ
sectors_of t d = option_map_or (λ slice. slice.sectors) (slice_get t.slices d) 0

-- two slices share no sector
abbrev pub AreApart : Slices → ℕ → ℕ → Type 0
AreApart t d e = (s u : ℕ) → s < sectors_of t d → u < sectors_of t e → first_of t d + s ≡ first_of t e + u → ⊥

-- what holds of all tables of slices
pub record IsOrderly (t : Slices) : Type 0 where
  -- a place without a disk has no slices
  pub seated : (d : ℕ) → seat_of t (place_of d) ≡ None → sectors_of t d ≡ 0
  -- a disk has one place at most
  pub one_place : (p q disk : ℕ) → seat_of t p ≡ Some disk → seat_of t q ≡ Some disk → p ≡ q
  -- the slices of one place don't overlap
  pub apart : (d e : ℕ) → place_of d ≡ place_of e → d ≢ e → AreApart t d e
