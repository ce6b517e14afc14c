-- What calls of a pool in a row keep, also such as attach disks and take drives in.
use Rattle.std.specs.Prelude.{◌≡◌, ◌⊎◌, ℕ, ◌<◌, ◌≤◌, false, List}
use Rattle.rack.specs.Values.{Keeps, MayLeave}
use Rattle.rack.specs.Seen.{Image, RackView}
use Rattle.slice_rack.specs.Runs.{IsSliced}
use Rattle.slice_rack.specs.Slices.{IsOrderly, Slices}
use Rattle.pool.specs.Proceeding.{Proceeds}
use Rattle.pool.specs.View.{View}
use Rattle.pool.specs.Volume.{size_of}

-- The bay goes on so, the volume lies where it lay, and what was told of disks stays told.
pub record Continues (x y : View) : Type 0 where
  pub proceeds : Proceeds x y
  -- slices that don't overlap don't afterwards
  pub orderly : IsOrderly x.slices → IsOrderly y.slices
  pub linear : y.linear ≡ x.linear
  pub size : size_of y ≡ size_of x
  pub unattached : x.shelf.faults ≤ y.shelf.faults
  pub tells : (d : ℕ) → d < x.bay.disks → x.bay.told d → y.bay.told d
  -- a disk that is attached from what waits is told
  pub known : x.shelf.told → ((d : ℕ) → d < x.bay.disks → x.bay.told d) → (d : ℕ) → d < y.bay.disks → y.bay.told d
  pub lasting : x.bay.lasting → y.bay.lasting
  pub lasts : x.bay.lasting → (d s : ℕ) → d < x.bay.disks → x.bay.spent d s ≡ false → y.bay.spent d s ≡ false

-- a sector of a disk that was there, which is told, that isn't of these disks and of no slice
pub record IsOutside (t : Slices) (named : ℕ → Type 0) (a : RackView) (d s : ℕ) : Type 0 where
  pub disk : d < a.disks
  pub sector : s < a.sectors d
  pub is_told : a.told d
  pub unnamed : named d → ⊥
  pub unsliced : (v : List ℕ) → IsSliced t d s v → ⊥

-- But for these disks, sectors of slices alone are written, of the disks that there were, and no sector becomes one of a slice. `t` and `u` are
-- the slices before and after. What stops leave is told where a disk that is attached is.
pub record KeepsOutside (t u : Slices) (named : ℕ → Type 0) (Told : Type 0) (a b : RackView) : Type 0 where
  pub slices : (d s : ℕ) (v : List ℕ) → IsSliced u d s v → IsSliced t d s v ⊎ named d
  pub held : (d s : ℕ) → IsOutside t named a d s → Keeps (a.held d s) (b.held d s)
  pub stops :
      Told → a.traced → (k : ℕ) (i : Image) → a.clock < k → k ≤ b.clock → b.stops k i
      → (d s : ℕ) → IsOutside t named a d s → MayLeave (a.held d s) (i d s)

-- no disk
abbrev pub NoDisk : ℕ → Type 0
NoDisk d = ⊥
