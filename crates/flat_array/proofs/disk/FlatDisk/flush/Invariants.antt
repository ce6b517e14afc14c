-- The sectors before the one in hand have their last values alone, the others are as they were.
use Rattle.std.proofs.Common.{◌≡◌, ℕ, ◌<◌, ◌≤◌, length}
use Rattle.flat_array.specs.Disk.{last_alone}
use Rattle.flat_array.proofs.Keeping.{items_at}
use Rattle.flat_array.proofs.disk.FlatDisk.flush.Given as goal

abbrev pub invariant-loop-kept : goal.invariant-loop-kept
invariant-loop-kept l =
    record {
      size : length l.kept-items ≡ length l.initial.kept-items;
      passed : (s : ℕ) → s < l.kept-index → items_at l.kept-items s ≡ last_alone (items_at l.initial.kept-items s);
      others : (s : ℕ) → l.kept-index ≤ s → items_at l.kept-items s ≡ items_at l.initial.kept-items s;
    }
