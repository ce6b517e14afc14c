use Rattle.std.proofs.Common.{◌≡◌, take}
use Rattle.rack_mem.proofs.image.copy_shelf.Given as goal

abbrev pub invariant-loop-disk : goal.invariant-loop-disk
invariant-loop-disk l = l.copy.items ≡ take l.disk-index l.shelf
