use Rattle.raid_rack.proofs.Entered.{HasEntered}
use Rattle.raid_rack.proofs.arrays.RaidRack.add_entries.Given as goal

abbrev pub invariant-loop-place : goal.invariant-loop-place
invariant-loop-place g l = HasEntered g.R.Rack.seen g.R.Rack.runs l.place-index l.fn.self l.self
