-- The disk model of one sector: which values a stop may leave in it.
use Rattle.std.specs.Prelude.{◌≡◌, ◌⊎◌, ℕ, List, [], ◌∷◌, ◌++◌, length}

-- the values of a sector since its disk's last sync, oldest first, the current one apart
pub record Values : Type 0 where
  pub older : List (List ℕ)
  pub current : List ℕ

-- the bytes of a sector. No rack owes it of what it holds: layers carry it of the sectors that they wrote.
abbrev pub IsSector : List ℕ → Type 0
IsSector v = length v ≡ 512

-- a value stands in a list
abbrev pub Has : List (List ℕ) → List ℕ → Type 0
Has [] v = ⊥
Has (x ∷ xs) v = (v ≡ x) ⊎ Has xs v

-- a stop may leave this value
abbrev pub MayLeave : Values → List ℕ → Type 0
MayLeave h v = (v ≡ h.current) ⊎ Has h.older v

-- all values, oldest first
abbrev pub all_of : Values → List (List ℕ)
all_of h = h.older ++ h.current ∷ []

-- the values after a write
abbrev pub append : Values → List ℕ → Values
append h v = record { older = h.older ++ h.current ∷ []; current = v }

-- one value alone, as a sync leaves it
abbrev pub only : List ℕ → Values
only v = record { older = []; current = v }

-- a stop can leave one value alone
abbrev pub IsSingle : Values → Type 0
IsSingle h = (v : List ℕ) → MayLeave h v → v ≡ h.current

-- the current value stays, and no value comes that wasn't there: older ones may be dropped
pub record Keeps (old new : Values) : Type 0 where
  pub current : new.current ≡ old.current
  pub within : (v : List ℕ) → MayLeave new v → MayLeave old v
