-- Drives that an opening marks missing, each with its cause.
use Rattle.std.specs.Prelude.{◌≡◌, ◌⊎◌, ℕ, ◌+◌, ◌≤◌, true, false, List, None}
use Rattle.rack.specs.Seen.{RackView}
use Rattle.pool_state.specs.declared.contents.State.{State}
use Rattle.array_image.specs.States.{is_current}
use Rattle.pool_image.specs.Disks.{Seats}
use Rattle.pool_scan.specs.declared.Known.{Known}
use Rattle.pool_scan.specs.Choosing.{seat_by}
use Rattle.pool_scan.specs.Scanning.{AllTold}
use Rattle.pool_rest.specs.Standing.{IsLasting, IsNewest, IsOnePool, since}
use Rattle.pool_check.specs.Drives.{Goes}
use Rattle.raid_laws.specs.Book.{OnlyMarksSince}
use Rattle.assembler_laws.specs.Raising.{most_opening}

-- Each place that is current in state s, and in state t isn't any more, had no disk, or its disk refused a call between x and y.
abbrev pub AreMarkedFor : RackView → RackView → Seats → State → State → Type 0
AreMarkedFor x y seats s t = (place : ℕ) → is_current s place ≡ true → is_current t place ≡ false → (seats place ≡ None) ⊎ Goes x y seats place

-- A pool was opened, whose state is `now`. The rack was `mid` at rest, and by what was read of its disks then the state was the newest one, of
-- one pool. Marks alone have come to it since, each for want of a disk, or for one that refused a call in the opening.
pub record MarksDrives {R : Type 0} (seen : R → RackView) (runs : R → R → Type 0) (rack back : R) (now : State) : Type 0 where
  pub mid : R
  pub kept : runs rack mid × runs mid back
  pub known : List Known
  pub state : State
  pub newest : AllTold (seen rack) → IsLasting (seen rack) → IsNewest (since (seen rack) (seen mid)) (seen mid) known state
  pub one : IsOnePool known state
  pub after : OnlyMarksSince state now
  pub marks : AreMarkedFor (seen rack) (seen back) (seat_by state known) state now
  -- each commit of marks is one epoch more, and so is one that makes superblocks agree
  pub epoch : now.epoch ≤ state.epoch + most_opening
