-- What the making of a pool may write.
use Rattle.std.specs.Prelude.{◌≡◌, ◌⊎◌, ℕ, ◌+◌, ◌<◌, ◌≤◌, List, length, Result, IfErr}
use Rattle.rack.specs.declared.Gone.{Gone}
use Rattle.rack.specs.Seen.{RackView, Rose}
use Rattle.rack.specs.Sequences.{WritesOnly}
use Rattle.gpt_table.specs.Plans.{IsOfTable}
use Rattle.array_image.specs.Places.{place_of, state_sector}
use Rattle.pool_format.specs.declared.planning.NewPool.{NewPool}
use Rattle.pool_format.specs.Slices.{first_planned, sectors_planned}
use Rattle.pool_format.specs.Data.{IsDataOf}
use Rattle.pool_format.specs.Drives.{IsSuperOf, gate_at, no_state}

-- a sector of one of a drive's slices
pub record IsOfSlice (plan : NewPool) (d s : ℕ) : Type 0 where
  pub drive : d < length plan.units.items
  pub slice : ℕ
  pub place : place_of slice ≡ d
  pub at : ℕ
  pub within : at < sectors_planned plan.arrays.items slice
  pub sector : s ≡ first_planned plan.arrays.items slice + at

-- a sector of the tables or of the slices
abbrev pub IsPart : NewPool → (ℕ → ℕ) → ℕ → ℕ → List ℕ → Type 0
IsPart plan sectors d s v = IsOfTable (sectors d) s ⊎ IsOfSlice plan d s

-- some sectors of a place's drive, in a row
abbrev pub InRows : ℕ → ℕ → ℕ → ℕ → ℕ → List ℕ → Type 0
InRows place first size d s v = (d ≡ place) × (first ≤ s) × (s < first + size)

-- the data of a place's member of the array of a number
abbrev pub InData : NewPool → ℕ → ℕ → ℕ → ℕ → List ℕ → Type 0
InData plan place number d s v = (d ≡ place) × IsDataOf plan place number s

-- that of all its members
abbrev pub InDatas : NewPool → ℕ → ℕ → ℕ → List ℕ → Type 0
InDatas plan place d s v = (d ≡ place) × (n : ℕ) × IsDataOf plan place n s

-- the table of a place's drive, and that data
abbrev pub InLaying : NewPool → (ℕ → ℕ) → ℕ → ℕ → ℕ → List ℕ → Type 0
InLaying plan sectors place d s v = (d ≡ place) × (IsOfTable (sectors d) s ⊎ ((n : ℕ) × IsDataOf plan place n s))

-- those of all drives
abbrev pub InLayings : NewPool → (ℕ → ℕ) → ℕ → ℕ → List ℕ → Type 0
InLayings plan sectors d s v = InLaying plan sectors d d s v

-- the superblock of a place's member of the array of a number
abbrev pub InSuper : NewPool → ℕ → ℕ → ℕ → ℕ → List ℕ → Type 0
InSuper plan place number d s v = (d ≡ place) × IsSuperOf plan place number s

-- those of all its members
abbrev pub InSupers : NewPool → ℕ → ℕ → ℕ → List ℕ → Type 0
InSupers plan place d s v = (d ≡ place) × (n : ℕ) × IsSuperOf plan place n s

-- the gate of a place's drive, and those superblocks
abbrev pub InClosing : NewPool → ℕ → ℕ → ℕ → List ℕ → Type 0
InClosing plan place d s v = (d ≡ place) × (place < length plan.units.items) × ((s ≡ gate_at) ⊎ ((n : ℕ) × IsSuperOf plan place n s))

-- those of all drives
abbrev pub InClosings : NewPool → ℕ → ℕ → List ℕ → Type 0
InClosings plan d s v = InClosing plan d d s v

-- all parts of all drives but the copies of the state
abbrev pub InFilling : NewPool → (ℕ → ℕ) → ℕ → ℕ → List ℕ → Type 0
InFilling plan sectors d s v = InLayings plan sectors d s v ⊎ InClosings plan d s v

-- a drive's copy of the state
abbrev pub InStates : NewPool → ℕ → ℕ → List ℕ → Type 0
InStates plan d s v = (d < length plan.units.items) × (s ≡ state_sector)

-- zeros in place of it
abbrev pub InCleared : NewPool → ℕ → ℕ → List ℕ → Type 0
InCleared plan d s v = InStates plan d s v × (v ≡ no_state)

-- nothing was written but these sectors; a refusal names a disk whose faults rose
pub record Lays (may : ℕ → ℕ → List ℕ → Type 0) (a b : RackView) {X : Type 0} (result : Result X Gone) : Type 0 where
  pub only : WritesOnly a b may
  pub gone : IfErr result (λ e. (e.disk < a.disks) × Rose (a.faults e.disk) (b.faults e.disk))
