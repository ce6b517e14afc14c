-- What the making of a pool answers.
use Rattle.std.specs.Prelude.{◌≡◌, ℕ, Result, MatchResult}
use Rattle.rack.specs.declared.Back.{Back}
use Rattle.rack.specs.Values.{IsSingle}
use Rattle.rack.specs.Seen.{RackView, IsLive}
use Rattle.rack.specs.Sequences.{WritesOnly}
use Rattle.gpt_table.specs.Disk.{now_on}
use Rattle.lvm_group.specs.Runs.{Linear}
use Rattle.lvm_group.specs.Made.{new_volume}
use Rattle.raid_rack.specs.declared.arrays.Arrays.{Arrays}
use Rattle.pool_format.specs.declared.Birth.{Birth}
use Rattle.pool_format.specs.declared.planning.NewPool.{NewPool}
use Rattle.pool_format.specs.Arrays.{new_views}
use Rattle.pool_format.specs.Parts.{new_state}
use Rattle.pool_format.specs.Drives.{IsNewDrive, IsWhole}
use Rattle.pool_format.specs.Plan.{HasRoom, IsPlan, IsPlanOf, units_on}
use Rattle.pool_format.specs.Data.{IsGroupRead, extents_of}
use Rattle.pool_format.specs.Stops.{StopsAmid}
use Rattle.pool_format.specs.Writing.{IsPart}

-- nothing was made, for this reason
abbrev pub IsRefusedFor : {A R E : Type 0} → E → Result A (Back R E) → Type 0
IsRefusedFor why result = MatchResult result (λ made. ⊥) (λ back. back.why ≡ why)

-- The pool of the plan of a rack's disks: its state, the arrays that its superblocks make, and the volume of all that they offer.
-- Only tables and slices of the plan were written, in their order at each moment. Each sector has one value, which a stop leaves, and each
-- disk that is told has the table, the state, the gate, the superblocks and the data of its place. What its arrays hold by these is read as
-- the volume's group.
pub record IsMade (x y : RackView) (extent : ℕ) (birth : Birth) (a : Arrays) (l : Linear) : Type 0 where
  pub plan : NewPool
  pub planned : IsPlanOf (units_on x extent) extent plan
  pub well_planned : IsPlan plan
  pub room : HasRoom plan x
  pub state : a.state ≡ new_state plan birth
  pub arrays : a.all.items ≡ new_views birth 0 plan.arrays.items
  pub volume : l ≡ new_volume extent (extents_of plan)
  pub only : WritesOnly x y (IsPart plan x.sectors)
  pub stops : StopsAmid plan birth x y
  pub single : (d s : ℕ) → IsLive x y d s → IsSingle (y.held d s)
  pub drives : (d : ℕ) → IsWhole x d → IsNewDrive plan birth d (x.sectors d) (now_on y d)
  pub group : IsGroupRead plan birth

-- what a refused making left: a part of those writes, in their order
pub record IsGivenBack (x y : RackView) (extent : ℕ) (birth : Birth) : Type 0 where
  pub plan : NewPool
  pub planned : IsPlanOf (units_on x extent) extent plan
  pub well_planned : IsPlan plan
  pub room : HasRoom plan x
  pub only : WritesOnly x y (IsPart plan x.sectors)
  pub stops : StopsAmid plan birth x y
