use Rattle.std.proofs.Common.{Ok}
use Rattle.rack.specs.Several.{Several}
use Rattle.lvm_group.specs.Sequences.{SyncsAll}
use Rattle.lvm_group.proofs.syncing.sync_first.Given as goal

abbrev pub invariant-loop-disk : goal.invariant-loop-disk
invariant-loop-disk g l = record {
  synced : SyncsAll (g.R.Rack.seen l.fn.rack) (g.R.Rack.seen l.rack) l.disk {X = Unit {0}} (Ok tt);
  runs : g.R.Rack.runs l.fn.rack l.rack;
  several : Several g.R.Rack.once l.disk l.fn.rack l.rack;
}
