-- A disk of which nothing is written, in calls in a row and in what stops leave.
use Rattle.std.specs.Prelude.{ℕ, ◌<◌, ◌≤◌}
use Rattle.rack.specs.Values.{Keeps, MayLeave}
use Rattle.rack.specs.Seen.{Image, RackView}

-- A disk is written nowhere. `Told`: what waits to be attached is told, since a moment tells a disk's contents from before it was attached.
pub record KeepsDisk (Told : Type 0) (a b : RackView) (d : ℕ) : Type 0 where
  pub held : (s : ℕ) → s < a.sectors d → a.told d → Keeps (a.held d s) (b.held d s)
  pub stops :
      Told → a.traced → (k : ℕ) (i : Image) → a.clock < k → k ≤ b.clock → b.stops k i
      → (s : ℕ) → s < a.sectors d → a.told d → MayLeave (a.held d s) (i d s)
