-- Each attached disk is asked to answer before a pool is opened. One that refuses is offline, as if it weren't there.
use Rattle.std.specs.Prelude.{◌≡◌, ℕ, ◌<◌, Bool, true, List}
use Rattle.rack.specs.Seen.{RackView}
use Rattle.rack.specs.Shelf.{Shelf}
use Rattle.rack.specs.Untouched.{KeepsDisk}
use Rattle.array_image.specs.Places.{state_sector}
use Rattle.online_bay.specs.Online.{Asks, is_offline, online_of}
use Rattle.shr_tool.specs.declared.opening.Task.{Task}
use Rattle.shr_tool.specs.declared.status.Status.{Status}
use Rattle.shr_tool.specs.Opened.{OpenOutcome}

-- a bay, and which of its disks are offline
pub record Online (B : Type 0) : Type 0 where
  pub bay : B
  pub offline : List Bool

-- offline disks have no sectors
abbrev pub online_seen : {B : Type 0} → (B → RackView) → Online B → RackView
online_seen seen x = online_of x.offline (seen x.bay)

abbrev pub online_shelf : {B : Type 0} → (B → Shelf) → Online B → Shelf
online_shelf shelf x = shelf x.bay

-- a disk that is offline stays so in calls in a row
abbrev pub online_runs : {B : Type 0} → (B → B → Type 0) → Online B → Online B → Type 0
online_runs runs x y = (y.offline ≡ x.offline) × runs x.bay y.bay

-- Each disk was asked for the sector of its state: the offline ones refused, and the others answered. Of these a pool was opened, or not, and the task done
-- on it. The offline ones were left alone.
pub record OnlineOutcome {B : Type 0} (seen : B → RackView) (shelf : B → Shelf) (runs : B → B → Type 0) (attached after : B) (task : Task) (text rest out out' : List ℕ) (status : Status)
    : Type 0 where
  pub asked : Online B
  pub asks : Asks seen runs attached asked.bay state_sector asked.offline
  pub kept : (d : ℕ) → d < (seen asked.bay).disks → is_offline asked.offline d ≡ true → KeepsDisk (shelf asked.bay).told (seen asked.bay) (seen after) d
  -- which are offline in the end
  pub offline : List Bool
  pub outcome :
      OpenOutcome (online_seen seen) (online_shelf shelf) (online_runs runs) asked (record { bay = after; offline = offline }) task text rest out out' status
