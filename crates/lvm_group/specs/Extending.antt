-- What extending a volume makes of it, and of the group on its arrays.
use Rattle.std.specs.Prelude.{◌≡◌, ◌<◌, ℕ, ◌+◌, ◌-◌, ◌^◌, min, max, List, length}
use Rattle.lvm_text.specs.declared.group.Group.{Group}
use Rattle.lvm_group.specs.Runs.{Linear, array_of, sector_of, sectors_in}
use Rattle.lvm_group.specs.Growth.{grown}
use Rattle.lvm_group.specs.Own.{own_group}

-- the seqno of the next text; the last one is used on
abbrev pub next_seqno : ℕ → ℕ
next_seqno seqno = min (seqno + 1) (2 ^ 63 - 1)

-- the volume whose arrays have these numbers of extents in it
abbrev pub extended : Linear → List ℕ → Linear
extended l numbers = record { extent = l.extent; arrays = max l.arrays (length numbers); runs = grown l.runs numbers }

-- its group
abbrev pub next_group : List ℕ → Linear → (ℕ → ℕ) → ℕ → List ℕ → Group
next_group pool l sectors seqno numbers = own_group pool l.extent sectors (next_seqno seqno) numbers (grown l.runs numbers)

-- each sector of the volume stays on its array's sector
abbrev pub KeepsPlaces : Linear → Linear → Type 0
KeepsPlaces l m = (sector : ℕ) → sector < sectors_in l → (array_of m sector ≡ array_of l sector) × (sector_of m sector ≡ sector_of l sector)
