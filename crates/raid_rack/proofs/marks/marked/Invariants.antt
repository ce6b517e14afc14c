use Rattle.std.proofs.Common.{◌≡◌, length, take}
use Rattle.raid_laws.specs.Missing.{marked_from}
use Rattle.raid_rack.proofs.marks.marked.Given as goal

abbrev pub invariant-loop-place : goal.invariant-loop-place
invariant-loop-place l = record {
  made : l.marked.items ≡ marked_from l.lost.items 0 (take l.place l.drives);
  many : length l.marked.items ≡ l.place;
}
