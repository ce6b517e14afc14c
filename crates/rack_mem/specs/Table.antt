-- Values by disk and sector.
use Rattle.std.specs.Prelude.{ℕ, ◌==◌, ◌&&◌, List, Option}
use Rattle.std.specs.HashMap.{get_by, spare}
use Rattle.std.specs.Option.{option_map_or}
use Rattle.rack_mem.specs.declared.table.Sector.{Sector}
use Rattle.rack_mem.specs.declared.table.SectorTable.{SectorTable}
use Rattle.rack_mem.specs.Zeros.{zeros}

-- the value of a sector
abbrev pub value_at : {V : Type 0} → SectorTable V → ℕ → ℕ → Option V
value_at table disk sector = get_by (λ place. (disk == place.disk) && (sector == place.sector)) table.entries

-- how many more sectors can get a value without memory
abbrev pub room_left : {V : Type 0} → SectorTable V → ℕ
room_left table = spare table.entries

-- the contents that a table holds: zeros where it has no value
abbrev pub stored : SectorTable Sector → ℕ → ℕ → List ℕ
stored table disk sector = option_map_or (λ bytes. bytes.bytes) (value_at table disk sector) zeros
