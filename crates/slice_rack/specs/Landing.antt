-- Sectors of slices that are to be written, as sectors of the disks below.
use Rattle.std.specs.Prelude.{ℕ, ◌+◌, nat_lt, if◌then◌else◌, Option, Some, None}
use Rattle.rack.specs.Targets.{Target}
use Rattle.slice_rack.specs.Slices.{Slices, disk_of, first_of, sectors_of}

-- where a target lies below: nowhere, if its slice isn't there or ends before it
abbrev pub landing : Slices → Target → Option Target
landing t x =
    if nat_lt x.sector (sectors_of t x.disk) then Some (record { disk = disk_of t x.disk; sector = first_of t x.disk + x.sector; bytes = x.bytes }) else None
