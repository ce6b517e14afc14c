-- What files with buffers show to contracts.
use Rattle.std.specs.Prelude.{◌≡◌, ℕ, ◌<◌, ◌^◌, List, false}
use Rattle.rack.specs.Seen.{Image, RackView}

pub record View : Type 1 where
  -- The files as a rack. A value that was put into a buffer for a sector is one of the sector's values from then on, the current
  -- one, though the file may not have it yet: what a stop leaves is one of these.
  pub seen : RackView
  -- what the place of a disk's buffer has
  pub buffer : ℕ → ℕ → List ℕ
  -- what a read of a disk's sector gives
  pub stored : Image

-- Files tell all that they hold, or nothing, and no sector of a file is spent.
pub record IsPlain (tells : Type 0) (x : RackView) : Type 0 where
  pub fit : x.fit
  pub told : (d : ℕ) → tells → x.told d
  pub tells_all : (d : ℕ) → x.told d → tells
  pub unspent : (d s : ℕ) → x.spent d s ≡ false
  pub lasting : x.lasting
  pub bounded : (d : ℕ) → d < x.disks → x.sectors d < 2 ^ 48

-- the file has the current value of each of its sectors
abbrev pub IsWritten : Type 0 → View → ℕ → Type 0
IsWritten tells x d = tells → (s : ℕ) → s < x.seen.sectors d → x.stored d s ≡ (x.seen.held d s).current

-- a file stays as it is
abbrev pub KeepsFile : Type 0 → View → View → ℕ → Type 0
KeepsFile tells a b d = tells → (s : ℕ) → s < a.seen.sectors d → b.stored d s ≡ a.stored d s
