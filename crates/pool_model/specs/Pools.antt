-- When a pool on drives is sound, and where its slices lie.
use Rattle.std.specs.Prelude.{◌≡◌, ◌&&◌, ◌<◌, ℕ, suc, nat_lt, true, false, None, Some}
use Rattle.slice_rack.specs.Slices.{Slices, first_of, place_of, seat_of, sectors_of}
use Rattle.md_super.specs.declared.superblock.Super.{Super}
use Rattle.array_image.specs.Places.{log_slice, member_slice}
use Rattle.array_image.specs.Supers.{is_named}
use Rattle.pool_image.specs.Drives.{Found, extent_of}
use Rattle.pool_image.specs.Meaning.{is_member, truth_of}
use Rattle.pool_image.specs.Replay.{Extent}
use Rattle.pool_image.specs.Sound.{IsSoundState}

-- The arrays and the copies of the state agree, and each array's truth names its own place.
pub record IsSoundPool (f : Found) : Type 0 where
  pub rules : IsSoundState f
  pub own : (n : ℕ) (u : Super) → n < f.state.made → truth_of f n ≡ Some u → is_named u u.dev_number ≡ true

-- where a table lays a slice
abbrev pub extent_in : Slices → ℕ → Extent
extent_in t k = record { first = first_of t k; sectors = sectors_of t k }

-- Tables of slices are those of a pool's drives: each place has its disk, and on that its log slice and the slices of the arrays that
-- name the place, where the pool has them. No other slice is there.
pub record AreSlicesOf (f : Found) (t : Slices) : Type 0 where
  pub seats : (p : ℕ) → seat_of t p ≡ f.seats p
  pub logs : (p d : ℕ) → f.seats p ≡ Some d → extent_of f 0 ≡ Some (extent_in t (log_slice p))
  pub members :
      (n p d : ℕ) → n < f.state.made → f.seats p ≡ Some d → is_member f n p ≡ true → extent_of f (suc n) ≡ Some (extent_in t (member_slice p n))
  pub others : (n p : ℕ) → n < 16 → (nat_lt n f.state.made && is_member f n p) ≡ false → sectors_of t (member_slice p n) ≡ 0
  pub unseated : (k : ℕ) → f.seats (place_of k) ≡ None → sectors_of t k ≡ 0
