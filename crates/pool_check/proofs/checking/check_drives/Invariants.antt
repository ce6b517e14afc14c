use Rattle.rack.specs.Sequences.{OnlyReads}
use Rattle.pool_check.specs.Drives.{IsSeating, Loses, seats_by}
use Rattle.pool_check.proofs.Losing.{seated}
use Rattle.pool_check.proofs.checking.check_drives.Given as goal

abbrev pub invariant-again : goal.invariant-again
invariant-again g l = record {
  only : OnlyReads (g.R.Rack.seen l.initial.rack) (g.R.Rack.seen l.rack);
  seats : Loses (g.R.Rack.seen l.initial.rack) (g.R.Rack.seen l.rack) (seats_by l.initial.seats) (seats_by l.seats);
  seating : IsSeating (g.R.Rack.seen l.initial.rack) l.state (seats_by l.seats);
  runs : g.R.Rack.runs l.initial.rack l.rack;
}

abbrev pub decreases-again : goal.decreases-again
decreases-again g l = seated (seats_by l.seats)
