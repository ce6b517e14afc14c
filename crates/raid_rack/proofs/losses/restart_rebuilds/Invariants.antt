use Rattle.array_core.specs.Seats.{restarted}
use Rattle.raid_laws.proofs.Each.{ChangedBelow}
use Rattle.raid_rack.proofs.losses.restart_rebuilds.Given as goal

abbrev pub invariant-loop-array : goal.invariant-loop-array
invariant-loop-array l = ChangedBelow restarted l.initial.arrays l.array-index l.arrays
