-- The sectors before the one in hand are filled.
use Rattle.std.proofs.Common.{ℕ, ◌-◌, ◌≤◌, List}
use Rattle.flat_array.specs.Array.{FlatArray, filled}
use Rattle.flat_array.specs.Disk.{DiskIs}
use Rattle.flat_array.proofs.disk.FlatDisk.unfill.Given as goal

abbrev pub invariant-loop-at : goal.invariant-loop-at
invariant-loop-at l =
    record {
      from : l.sector ≤ l.at;
      filled :
          (a : FlatArray) (v : List ℕ)
          → DiskIs l.fn.self (filled a l.sector (l.end - l.sector) v)
          → DiskIs l.self (filled a l.sector (l.at - l.sector) v);
    }

abbrev pub decreases-loop-at : goal.decreases-loop-at
decreases-loop-at l = l.at
