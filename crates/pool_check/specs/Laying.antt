-- The slices of arrays' members, laid on tables that have the log slices.
use Rattle.std.specs.Prelude.{◌≡◌, ◌≢◌, ℕ, ◌+◌, ◌<◌, ◌≤◌, nat_lt, Bool, true, ◌==◌, ◌&&◌, ◌||◌, is_some, if◌then◌else◌, List, slice_get, Option, Some, None}
use Rattle.std.specs.Option.{option_and_then, option_map_or}
use Rattle.slice_rack.specs.Slices.{Slices, seat_of, first_of, sectors_of}
use Rattle.array_image.specs.Places.{arrays_first, member_slice, slice_of}
use Rattle.array_image.specs.Supers.{is_named}
use Rattle.array_model.specs.View.{View}
use Rattle.pool_image.specs.Disks.{Seats}
use Rattle.pool_check.specs.declared.Extent.{Extent}

-- where the slice of a place's member of an array lies, where the array's truth names the place, which has a disk
abbrev pub laid_at : Seats → List View → List Extent → ℕ → ℕ → Option Extent
laid_at seats arrays extents number place =
    option_and_then (λ v. if is_named v.truth place && is_some (seats place) then slice_get extents number else None) (slice_get arrays number)

-- the places have these disks, and their log slices lie before the slices of arrays
pub record HasLogsOnly (t : Slices) (seats : Seats) : Type 0 where
  pub seats_are : (p : ℕ) → seat_of t p ≡ seats p
  pub logs : (k : ℕ) → slice_of k ≡ 0 → 0 < sectors_of t k → first_of t k + sectors_of t k ≤ arrays_first

-- no slice of an array is laid
abbrev pub HasNoMembers : Slices → Type 0
HasNoMembers t = (k : ℕ) → slice_of k ≢ 0 → sectors_of t k ≡ 0

-- seats and log slices are as they were
pub record KeepsLogs (t u : Slices) : Type 0 where
  pub seats : (p : ℕ) → seat_of u p ≡ seat_of t p
  pub firsts : (k : ℕ) → slice_of k ≡ 0 → first_of u k ≡ first_of t k
  pub sectors : (k : ℕ) → slice_of k ≡ 0 → sectors_of u k ≡ sectors_of t k

-- an array before another one, or a place before another one of the same
abbrev pub is_before : ℕ → ℕ → ℕ → ℕ → Bool
is_before number place n p = nat_lt n number || ((n == number) && nat_lt p place)

-- the slices of the arrays below a number, and of that array those of the places below a number, and no other one of an array
pub record IsLaidTo (seats : Seats) (arrays : List View) (extents : List Extent) (number place : ℕ) (t : Slices) : Type 0 where
  pub sectors :
      (n p : ℕ) → n < 16 → p < 16
      → sectors_of t (member_slice p n) ≡ (if is_before number place n p then option_map_or (λ e. e.sectors) (laid_at seats arrays extents n p) 0 else 0)
  pub firsts :
      (n p : ℕ) (e : Extent) → n < 16 → p < 16 → is_before number place n p ≡ true → laid_at seats arrays extents n p ≡ Some e
      → first_of t (member_slice p n) ≡ e.first

-- each member with a disk has its slice, and nobody else has one
pub record HasMembers (seats : Seats) (arrays : List View) (extents : List Extent) (t : Slices) : Type 0 where
  pub sectors :
      (n p : ℕ) → n < 16 → p < 16 → sectors_of t (member_slice p n) ≡ option_map_or (λ e. e.sectors) (laid_at seats arrays extents n p) 0
  pub firsts :
      (n p : ℕ) (e : Extent) → n < 16 → p < 16 → laid_at seats arrays extents n p ≡ Some e → first_of t (member_slice p n) ≡ e.first
