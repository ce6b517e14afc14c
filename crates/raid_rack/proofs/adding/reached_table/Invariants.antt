use Rattle.std.proofs.Common.{◌≡◌, ◌≤◌, ◌+◌, length}
use Rattle.growth_laws.specs.NewDrives as spec
use Rattle.raid_rack.proofs.adding.reached_table.Given as goal

abbrev pub invariant-loop-number : goal.invariant-loop-number
invariant-loop-number l = record {
  items : l.entries.items ≡ spec.reached_entries l.drive.0 l.arrays (spec.reaches l.extent l.arrays l.units l.sectors) l.number;
  many : length l.entries.items ≤ l.number + 1;
}
