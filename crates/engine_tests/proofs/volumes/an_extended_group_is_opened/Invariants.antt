use Rattle.std.proofs.Common.{◌≡◌}
use Rattle.rack_mem.specs.MemBay.{memory}
use Rattle.rack_mem.specs.Memory.{seen_of}
use Rattle.lvm_group.specs.Shown.{volume_of}
use Rattle.lvm_group.specs.Volume.{below_of, linear}
use Rattle.engine_tests.proofs.volumes.an_extended_group_is_opened.Given as goal

abbrev pub invariant-loop-numbers : goal.invariant-loop-numbers
invariant-loop-numbers g l = (volume_of (linear l.volume) (seen_of (memory (below_of l.volume)))).fit × ((linear l.volume).extent ≡ 128)
