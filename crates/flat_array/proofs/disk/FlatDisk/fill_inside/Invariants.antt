-- The sectors before the one in hand are filled.
use Rattle.std.proofs.Common.{◌+◌, ◌-◌, ◌≤◌}
use Rattle.flat_array.specs.Array.{FlatArray, filled}
use Rattle.flat_array.specs.Disk.{DiskIs}
use Rattle.flat_array.proofs.disk.FlatDisk.fill_inside.Given as goal

abbrev pub invariant-loop-at : goal.invariant-loop-at
invariant-loop-at l =
    record {
      from : l.sector ≤ l.at;
      until : l.at ≤ l.sector + l.count;
      filled : (a : FlatArray) → DiskIs l.fn.self a → DiskIs l.self (filled a l.sector (l.at - l.sector) l.value);
    }
