use Rattle.std.proofs.Common.{◌≡◌, length}
use Rattle.rack.specs.Sequences.{OnlyReads}
use Rattle.rack.specs.Several.{Several}
use Rattle.lvm_group.specs.Writing.{AreStarts}
use Rattle.lvm_group.specs.Changing.{AreBehind}
use Rattle.lvm_group.proofs.starts.read_starts.Given as goal

abbrev pub invariant-loop-array : goal.invariant-loop-array
invariant-loop-array g l = record {
  looks : OnlyReads (g.R.Rack.seen l.fn.rack) (g.R.Rack.seen l.rack);
  several : Several g.R.Rack.once l.array l.fn.rack l.rack;
  runs : g.R.Rack.runs l.fn.rack l.rack;
  count : length l.starts.items ≡ l.array;
  inside : AreStarts l.starts.items;
  behind : AreBehind (g.R.Rack.seen l.fn.rack) l.array l.starts.items;
}
