use Rattle.rack.specs.Sequences.{OnlyReads}
use Rattle.pool_check.specs.Drives.{AreDrivesOf, Drives, found_with, seats_by}
use Rattle.pool_check.specs.Layers.{AreFoundedBy, AreLayers}
use Rattle.pool_check.specs.Slots.{AreKept}
use Rattle.pool_check.proofs.layers.read_layers.Given as goal

abbrev pub invariant-loop-number : goal.invariant-loop-number
invariant-loop-number g l = record {
  only : OnlyReads (g.R.Rack.seen l.initial.rack) (g.R.Rack.seen l.rack);
  kept : AreKept l.number l.layers;
  layers :
      (o : Drives) → AreDrivesOf (g.R.Rack.seen l.initial.rack) (seats_by l.seats) o
      → AreLayers (found_with l.state (seats_by l.seats) o) l.number l.layers;
  founded : AreFoundedBy l.state (seats_by l.seats) l.number l.layers;
  runs : g.R.Rack.runs l.initial.rack l.rack;
}
