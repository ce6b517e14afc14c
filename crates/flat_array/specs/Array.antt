-- The flat array: one disk of sectors, each with the values that it has had since the last flush.
use Rattle.std.specs.Prelude.{◌≡◌, ℕ, ◌+◌, ◌<◌, List, nat_le, nat_lt, ◌&&◌, ◌==◌, if◌then◌else◌}
use Rattle.rack.specs.Values.{Values, MayLeave, Keeps, append, only}

-- the sectors, and the values of each since the last flush
pub record FlatArray : Type 0 where
  pub size : ℕ
  pub values : ℕ → Values

-- an array whose sectors have had one value each
abbrev pub fresh : ℕ → (ℕ → List ℕ) → FlatArray
fresh size contents = record { size = size; values = λ s. only (contents s) }

-- after a write to one sector
abbrev pub written : FlatArray → ℕ → List ℕ → FlatArray
written a sector bytes =
    record a { values = λ s. if s == sector then append (a.values s) bytes else a.values s }

-- after a write of the same bytes to each of so many sectors from one on
abbrev pub filled : FlatArray → ℕ → ℕ → List ℕ → FlatArray
filled a sector count bytes =
    record a { values = λ s. if nat_le sector s && nat_lt s (sector + count) then append (a.values s) bytes else a.values s }

-- after a flush: the current value of each sector alone
abbrev pub flushed : FlatArray → FlatArray
flushed a = record a { values = λ s. only (a.values s).current }

-- contents that take one of the values of each sector
abbrev pub Picks : FlatArray → (ℕ → List ℕ) → Type 0
Picks a contents = (s : ℕ) → s < a.size → MayLeave (a.values s) (contents s)

-- a disk's values are those of the array, of which older ones may have been dropped
pub record Tracks (a : FlatArray) (sectors : ℕ) (held : ℕ → Values) : Type 0 where
  pub size : sectors ≡ a.size
  pub values : (s : ℕ) → s < a.size → Keeps (a.values s) (held s)
