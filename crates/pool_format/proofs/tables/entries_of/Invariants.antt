use Rattle.std.proofs.Common.{◌≡◌, ◌≤◌, ◌+◌, ◌++◌, drop, length}
use Rattle.pool_format.specs.Parts as spec
use Rattle.pool_format.specs.Parts.{entries_from}
use Rattle.pool_format.proofs.tables.entries_of.Given as goal

-- those of the arrays up to here
abbrev pub invariant-loop-number : goal.invariant-loop-number
invariant-loop-number l = record {
  made : l.entries.items ++ entries_from l.drive.0 l.place l.number (drop l.number l.arrays) ≡ spec.entries_of l.drive.0 l.place l.arrays;
  many : length l.entries.items ≤ l.number + 1;
}
