use Rattle.std.proofs.Common.{◌≡◌, ◌-◌, length, map}
use Rattle.std.specs.List.{range_with_len}
use Rattle.std.specs.Option.{option_copied}
use Rattle.array_image.specs.Foremost.{foremost}
use Rattle.array_image.specs.States.{epoch_of}
use Rattle.pool_scan.specs.Scanning.{copied_at}
use Rattle.pool_scan.proofs.choosing.newest_copy.Given as goal

abbrev pub invariant-loop-after : goal.invariant-loop-after
invariant-loop-after l = record {
  newest : option_copied l.newest ≡ foremost epoch_of (map (copied_at l.known) (range_with_len (length l.known - l.after) l.after));
}
