use Rattle.std.proofs.Common.{◌≡◌, ◌++◌, drop, length, slice_set}
use Rattle.raid_rack.proofs.enlisting.replaced.Given as goal

abbrev pub invariant-loop-at : goal.invariant-loop-at
invariant-loop-at l = record {
  items : l.replaced.items ++ drop l.at (slice_set l.drives l.place l.drive) ≡ slice_set l.drives l.place l.drive;
  many : length l.replaced.items ≡ l.at;
}
