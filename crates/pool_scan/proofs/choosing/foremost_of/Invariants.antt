use Rattle.std.proofs.Common.{◌≡◌, ◌-◌, length, map}
use Rattle.std.specs.List.{range_with_len}
use Rattle.array_image.specs.Foremost.{foremost}
use Rattle.pool_scan.specs.Choosing.{epoch_at, standing}
use Rattle.pool_scan.proofs.choosing.foremost_of.Given as goal

abbrev pub invariant-loop-after : goal.invariant-loop-after
invariant-loop-after l = record {
  best : l.best ≡ foremost (epoch_at l.known) (map (standing l.state l.known l.place) (range_with_len (length l.known - l.after) l.after));
}
