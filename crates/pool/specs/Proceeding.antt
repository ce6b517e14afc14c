-- What calls of a pool keep whatever they make of its volume, as such do by which it grows.
use Rattle.std.specs.Prelude.{ℕ, ◌≤◌, Bool, false, nat_lt, if◌then◌else◌, length}
use Rattle.rack.specs.Seen.{Image}
use Rattle.lvm_group.specs.Runs.{Linear}
use Rattle.growth_plan.specs.Works.{grows}
use Rattle.raid_laws.specs.Raid.{Raid}
use Rattle.pool.specs.Moment.{KeepsDisks, moment_of}
use Rattle.pool.specs.View.{View, volume}
use Rattle.pool.specs.Works.{progress_by}

-- The disks that there were are still there, and what stops left of them before is as it was.
pub record Proceeds (x y : View) : Type 0 where
  pub fit : (volume y).fit
  pub disks : KeepsDisks (moment_of x) (moment_of y)
  pub told : x.shelf.told → y.shelf.told
  pub traced : x.shelf.told → x.bay.traced → y.bay.traced
  pub later : x.shelf.told → x.bay.traced → x.bay.clock ≤ y.bay.clock
  pub past : x.shelf.told → x.bay.traced → (k : ℕ) (i : Image) → k ≤ x.bay.clock → y.bay.stops k i → x.bay.stops k i

-- a work of a growth is left by a book: any but a row to resync or to rebuild, and the plan's end
abbrev pub has_growth : Linear → Raid → Bool
has_growth l v = if nat_lt 0 (length v.state.drives.items) then nat_lt 0 (length (grows v.state (progress_by l v))) else false
