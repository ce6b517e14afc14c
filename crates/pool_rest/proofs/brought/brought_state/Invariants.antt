use Rattle.std.proofs.Common.{◌≡◌, ◌-◌, length, map, drop}
use Rattle.array_image.specs.Foremost.{foremost}
use Rattle.array_image.specs.States.{epoch_of}
use Rattle.pool_image.specs.Replay.{brought}
use Rattle.pool_rest.proofs.brought.brought_state.Given as goal

abbrev pub invariant-loop-after : goal.invariant-loop-after
invariant-loop-after l = l.newest ≡ foremost epoch_of (map brought (drop (length l.log.pending - l.after) l.log.pending))
