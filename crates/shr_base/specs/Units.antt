-- The units of a drive.
use Rattle.std.specs.Prelude.{ℕ, ◌+◌, ◌*◌, ◌-◌, ◌/◌, nat_lt, if◌then◌else◌}

-- sectors that hold no unit: the partition tables and the log slice (10240), the head of each of 16
-- layers (4096) and the end (2048)
abbrev pub reserved_sectors : ℕ
reserved_sectors = 10240 + 16 * 4096 + 2048

-- how many whole extents a drive holds past the reserve
abbrev pub units_of : ℕ → ℕ → ℕ
units_of sectors extent = if nat_lt sectors reserved_sectors then 0 else (sectors - reserved_sectors) / extent
