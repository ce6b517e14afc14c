use Rattle.array_core.specs.Seats.{gone}
use Rattle.raid_laws.proofs.Each.{ChangedBelow}
use Rattle.raid_rack.proofs.losses.note_gone.Given as goal

abbrev pub invariant-loop-array : goal.invariant-loop-array
invariant-loop-array l = ChangedBelow (gone l.lost.items) l.initial.arrays l.array-index l.arrays
