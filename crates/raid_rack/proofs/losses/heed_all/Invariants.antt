use Rattle.array_core.specs.Seats.{heeded}
use Rattle.raid_laws.proofs.Each.{ChangedBelow}
use Rattle.raid_rack.proofs.losses.heed_all.Given as goal

abbrev pub invariant-loop-array : goal.invariant-loop-array
invariant-loop-array l = ChangedBelow heeded l.initial.arrays l.array-index l.arrays
