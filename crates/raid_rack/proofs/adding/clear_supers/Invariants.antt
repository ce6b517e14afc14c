use Rattle.std.proofs.Common.{Ok}
use Rattle.growth_laws.specs.NewDrives as spec
use Rattle.raid_rack.proofs.adding.clear_supers.Given as goal

abbrev pub invariant-loop-number : goal.invariant-loop-number
invariant-loop-number g l = record {
  clears : spec.ClearsSupers (g.R.Rack.seen l.fn.rack) (g.R.Rack.seen l.rack) l.disk l.arrays
      (spec.may_join l.extent l.arrays l.place l.units ((g.R.Rack.seen l.fn.rack).sectors l.disk)) l.number {X = Unit {0}} (Ok tt);
  runs : g.R.Rack.runs l.fn.rack l.rack;
}
