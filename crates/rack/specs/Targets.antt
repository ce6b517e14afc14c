-- Sectors that are to be written, and what a rack's disks hold once they are.
use Rattle.std.specs.Prelude.{ℕ, Bool, ◌==◌, ◌&&◌, nat_lt, if◌then◌else◌, List, [], ◌∷◌, Option, Some, None, unwrap_or}
use Rattle.std.specs.Option.{option_or}
use Rattle.rack.specs.Seen.{Image}

-- a sector to be written, and its bytes
pub record Target : Type 0 where
  pub disk : ℕ
  pub sector : ℕ
  pub bytes : List ℕ

-- whether it is this sector
abbrev pub is_at : ℕ → ℕ → Target → Bool
is_at disk sector t = (t.disk == disk) && (t.sector == sector)

-- one target
abbrev pub target : ℕ → ℕ → List ℕ → Target
target disk sector v = record { disk = disk; sector = sector; bytes = v }

-- what a list of targets has for a sector: the last of them counts
unfoldable pub look : List Target → ℕ → ℕ → Option (List ℕ)
look [] d s = None
look (t ∷ others) d s = option_or (look others d s) (if is_at d s t then Some t.bytes else None)

-- the contents with targets written, where disks of so many sectors have them
abbrev pub put : (ℕ → ℕ) → List Target → Image → Image
put sectors xs c = λ d s. if nat_lt s (sectors d) then unwrap_or (look xs d s) (c d s) else c d s
