use Rattle.std.proofs.Common.{◌≡◌, ◌+◌, ◌*◌, ◌≤◌, length}
use Rattle.std.specs.Prelude.{IfSome}
use Rattle.lvm_group.specs.Group.{seqno_of}
use Rattle.lvm_group.specs.Opening.{group_by}
use Rattle.lvm_group.specs.Reading.{IsTextOf}
use Rattle.rack.specs.Several.{Several}
use Rattle.rack.specs.Sequences.{OnlyReads}
use Rattle.lvm_group.specs.Found.{AreParts}
use Rattle.lvm_group.proofs.parts.read_parts.Given as goal

abbrev pub invariant-loop-array : goal.invariant-loop-array
invariant-loop-array g l = record {
  looks : OnlyReads (g.R.Rack.seen l.fn.rack) (g.R.Rack.seen l.rack);
  runs : g.R.Rack.runs l.fn.rack l.rack;
  unwritten : g.R.Rack.unwritten l.fn.rack l.rack;
  several : Several g.R.Rack.once (521 * l.array) l.fn.rack l.rack;
  room : 262144 ≤ length l.into.bytes + l.into.spare;
  kept_room : 262144 ≤ length l.kept.bytes + l.kept.spare;
  newest : l.newest ≡ seqno_of (group_by l.parts.items);
  said : IfSome (group_by l.parts.items) (IsTextOf l.kept.bytes);
  count : length l.parts.items ≡ l.array;
  parts : AreParts (g.R.Rack.seen l.fn.rack) (g.R.Rack.seen l.rack) l.array l.parts.items;
}
