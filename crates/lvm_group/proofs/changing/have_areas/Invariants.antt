use Rattle.lvm_group.specs.Brought.{HaveAreas}
use Rattle.lvm_group.proofs.changing.have_areas.Given as goal

abbrev pub invariant-loop-array : goal.invariant-loop-array
invariant-loop-array g l = HaveAreas (g.R.Rack.seen l.rack).sectors l.array
