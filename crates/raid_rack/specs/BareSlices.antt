-- Slices that come to the tables or go from them, of which no superblock is left.
use Rattle.std.specs.Prelude.{◌≡◌, ℕ, ◌<◌, ◌≤◌, ◌==◌, Bool, true, None}
use Rattle.rack.specs.Seen.{Image, RackView, IsLive}
use Rattle.array_image.specs.Arrays.{replayed}
use Rattle.array_image.specs.Left.{Picks}
use Rattle.array_image.specs.Places.{member_slice, slice_of, super_sector}
use Rattle.array_image.specs.Supers.{super_of}

-- contents have no superblock of an array on these slices
abbrev pub HasNoSuper : (ℕ → Bool) → Image → Type 0
HasNoSuper own c = (d : ℕ) → own d ≡ true → super_of (c d super_sector) ≡ None

-- Each sector of these slices can be called and is told, and no stop leaves a superblock on them: not now, and at no moment before, also where one was pending.
pub record AreBare (own : ℕ → Bool) (x : RackView) : Type 0 where
  pub live : (d t : ℕ) → own d ≡ true → t < x.sectors d → IsLive x x d t
  pub now : (c : Image) → Picks x c → HasNoSuper own c
  pub before : (k : ℕ) (c : Image) → k ≤ x.clock → x.stops k c → HasNoSuper own (replayed x.sectors c)

-- the slice of a place's member of array n
abbrev pub is_member_slice : (place n : ℕ) → ℕ → Bool
is_member_slice place n d = d == member_slice place n
