use Rattle.pool_check.specs.Drives.{seats_by}
use Rattle.pool_check.specs.Settling.{AreSettled}
use Rattle.pool_check.proofs.settling.settle_tables.Given as goal

abbrev pub invariant-loop-place : goal.invariant-loop-place
invariant-loop-place g l = record {
  settled : AreSettled (g.R.Rack.seen l.initial.rack) (g.R.Rack.seen l.rack) (seats_by l.initial.seats) (seats_by l.seats) l.agreed l.place;
  runs : g.R.Rack.runs l.initial.rack l.rack;
}
