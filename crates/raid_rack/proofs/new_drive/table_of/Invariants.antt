use Rattle.std.proofs.Common.{◌≡◌, ◌≤◌, ◌+◌, length}
use Rattle.raid_laws.specs.NewDrive as spec
use Rattle.raid_rack.proofs.new_drive.table_of.Given as goal

abbrev pub invariant-loop-number : goal.invariant-loop-number
invariant-loop-number l = record {
  items : l.entries.items ≡ spec.entries_of l.drive.0 l.arrays l.place l.sectors l.number;
  many : length l.entries.items ≤ l.number + 1;
}
