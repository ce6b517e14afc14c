-- How the making of a pool on attached disks came out.
use Rattle.std.specs.Prelude.{◌≡◌, ◌⊎◌, ℕ, ◌<◌, List, ◌++◌, codes, decimal}
use Rattle.rack.specs.Seen.{RackView, Rose}
use Rattle.lvm_group.specs.Runs.{Linear, sectors_in}
use Rattle.raid_rack.specs.declared.arrays.Arrays.{Arrays}
use Rattle.shr_script.specs.Reply.{as_line, refused_line}
use Rattle.pool_format.specs.declared.Birth.{Birth}
use Rattle.pool_format.specs.declared.formatting.CreateFault.{CreateFault}
use Rattle.pool_format.specs.declared.formatting.CreateFault.TheVariants.{Layout, Gone, Memory}
use Rattle.pool_format.specs.Plan.{IsUnplanned, units_on}
use Rattle.pool.specs.Made.{IsSafelyRefused, IsSoundlyMade}
use Rattle.shr_tool.specs.declared.status.Status.{Status}
use Rattle.shr_tool.specs.declared.status.Status.TheVariants.{Done}
use Rattle.shr_tool.specs.Refusing.{fault_words, fault_status}
use Rattle.shr_tool.specs.Saying.{Says}

-- `created N`
abbrev pub created_line : ℕ → List ℕ
created_line sectors = as_line (codes "created " ++ decimal sectors)

-- why none was made: the disks have no plan, and nothing was called; or a disk refused a call, and what stops had left by then has no meaning
-- or is a pool of zeros, once copies of a state were cleared
abbrev pub HasFaultCause : {R : Type 0} → (R → RackView) → CreateFault → R → R → ℕ → Birth → Type 0
HasFaultCause seen (Layout error) bay after extent birth = IsUnplanned (units_on (seen bay) extent) error × (after ≡ bay)
HasFaultCause seen (Gone disk) bay after extent birth =
    (disk < (seen bay).disks) × Rose ((seen bay).faults disk) ((seen after).faults disk) × IsSafelyRefused (seen bay) (seen after) extent birth
HasFaultCause seen Memory bay after extent birth = IsSafelyRefused (seen bay) (seen after) extent birth

-- no pool was made on the disks
pub record NotMade {R : Type 0} (seen : R → RackView) (runs : R → R → Type 0) (bay after : R) (extent : ℕ) (birth : Birth) (out out' : List ℕ) (status : Status)
    : Type 0 where
  pub why : CreateFault
  pub says : Says (fault_status why) (refused_line (fault_words why)) out out' status
  pub kept : runs bay after
  pub cause : HasFaultCause seen why bay after extent birth

-- A pool was made on the disks, and the line says the sectors of its volume. Where the disks were told, they mean one volume of that many
-- sectors, all zeros; and what a stop inside leaves has no meaning or means that volume, once copies of a state were cleared.
pub record MadeOn {R : Type 0} (seen : R → RackView) (runs : R → R → Type 0) (bay after : R) (extent : ℕ) (birth : Birth) (out out' : List ℕ) (status : Status)
    : Type 0 where
  pub kept : runs bay after
  pub arrays : Arrays
  pub volume : Linear
  pub is_made : IsSoundlyMade (seen bay) (seen after) extent birth arrays volume
  pub says : Says Done (created_line (sectors_in volume)) out out' status

-- how it came out
abbrev pub MakeOutcome : {R : Type 0} → (R → RackView) → (R → R → Type 0) → R → R → ℕ → Birth → List ℕ → List ℕ → Status → Type 0
MakeOutcome seen runs bay after extent birth out out' status =
    NotMade seen runs bay after extent birth out out' status ⊎ MadeOn seen runs bay after extent birth out out' status
