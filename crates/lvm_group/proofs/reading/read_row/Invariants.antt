use Rattle.std.proofs.Common.{◌≡◌, ◌+◌, ◌-◌, ◌*◌, ◌/◌, ◌<◌, ◌≤◌, ◌^◌, length}
use Rattle.lvm_group.specs.Parts.{Array, behind, row_at}
use Rattle.rack.specs.Several.{Several}
use Rattle.rack.specs.Sequences.{OnlyReads}
use Rattle.lvm_group.specs.Reading.{IsNow, held_on}
use Rattle.lvm_group.proofs.reading.read_row.Given as goal

abbrev pub invariant-loop-left : goal.invariant-loop-left
invariant-loop-left g l = record {
  looks : OnlyReads (g.R.Rack.seen l.fn.rack) (g.R.Rack.seen l.rack);
  runs : g.R.Rack.runs l.fn.rack l.rack;
  unwritten : g.R.Rack.unwritten l.fn.rack l.rack;
  -- one call for each sector that was passed, and one for the last one
  several : Several g.R.Rack.once (l.at / 512 - l.fn.from / 512 + 1) l.fn.rack l.rack;
  passed : 0 < l.left → Several g.R.Rack.once (l.at / 512 - l.fn.from / 512) l.fn.rack l.rack;
  starts : l.fn.from ≤ l.at;
  ends : l.at + l.left ≡ l.fn.from + l.fn.count;
  inside : l.fn.from + l.fn.count ≤ 512 * (g.R.Rack.seen l.fn.rack).sectors l.fn.array;
  bounded : (g.R.Rack.seen l.fn.rack).sectors l.fn.array < 2 ^ 52;
  room : l.left ≤ l.into.spare;
  short : length l.into.bytes + l.left ≤ length l.fn.into.bytes + l.fn.count;
  kept : length l.fn.into.bytes + l.fn.into.spare ≤ length l.into.bytes + l.into.spare;
  bytes : (now : Array) → IsNow (g.R.Rack.seen l.fn.rack) l.fn.array now
      → behind l.fn.into.bytes (row_at (held_on (g.R.Rack.seen l.fn.rack) l.fn.array now) l.fn.from l.fn.count)
      ≡ behind l.into.bytes (row_at (held_on (g.R.Rack.seen l.fn.rack) l.fn.array now) l.at l.left);
}

abbrev pub decreases-loop-left : goal.decreases-loop-left
decreases-loop-left g l = l.left
