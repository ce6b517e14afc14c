-- What the calls of this crate do to the rack that they are given.
use Rattle.std.specs.Prelude.{◌≡◌, ℕ, List, Result, OnOk, IfOk, IfErr, false, Option, Some}
use Rattle.rack.specs.declared.Gone.{Gone}
use Rattle.rack.specs.Seen.{RackView, Rose}
use Rattle.rack.specs.Sequences.{OnlyReads, WritesOnly}

-- nothing was written, and some sectors, not spent at the start, were read; of a told disk the value says this
pub record Looks (a b : RackView) (disk : ℕ) (at : ℕ → Type 0) {X : Type 0} (says : X → Type 0) (result : Result X Gone)
    : Type 0 where
  pub only : OnlyReads a b
  pub served : OnOk result ((sector : ℕ) → at sector → a.spent disk sector ≡ false)
  pub value : IfOk result (λ x. a.told disk → says x)
  pub gone : IfErr result (λ e. (e.disk ≡ disk) × Rose (a.faults disk) (b.faults disk))

-- the value that a call may write in each sector of a disk
abbrev pub Plan : Type 0
Plan = ℕ → Option (List ℕ)

-- a value that is planned for a sector
abbrev pub IsPlanned : ℕ → Plan → ℕ → ℕ → List ℕ → Type 0
IsPlanned disk plan d s v = (d ≡ disk) × (plan s ≡ Some v)

-- nothing but planned values came, neither now nor at any moment
abbrev pub Follows : RackView → RackView → ℕ → Plan → Type 0
Follows a b disk plan = WritesOnly a b (IsPlanned disk plan)
