use Rattle.std.proofs.Common.{ℕ, ◌<◌}
use Rattle.rack.specs.Sequences.{WritesOnly}
use Rattle.pool_format.specs.Data.{LeavesData}
use Rattle.pool_format.specs.Writing.{InDatas}
use Rattle.pool_format.proofs.members.write_members.Given as goal

-- data of the drive alone were written so far, that of the arrays up to here
abbrev pub invariant-loop-number : goal.invariant-loop-number
invariant-loop-number g l = record {
  laid : WritesOnly (g.R.Rack.seen l.initial.rack) (g.R.Rack.seen l.rack) (InDatas l.plan l.place);
  stand : (n : ℕ) → n < l.number → LeavesData l.plan l.birth l.place n (g.R.Rack.seen l.initial.rack) (g.R.Rack.seen l.rack);
  runs : g.R.Rack.runs l.initial.rack l.rack;
}
