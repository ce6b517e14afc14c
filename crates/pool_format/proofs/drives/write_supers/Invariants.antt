use Rattle.std.proofs.Common.{ℕ, ◌<◌}
use Rattle.rack.specs.Sequences.{WritesOnly}
use Rattle.pool_format.specs.Drives.{LeavesSuper}
use Rattle.pool_format.specs.Writing.{InSupers}
use Rattle.pool_format.proofs.drives.write_supers.Given as goal

-- superblocks of the drive alone were written so far, those of the arrays up to here
abbrev pub invariant-loop-number : goal.invariant-loop-number
invariant-loop-number g l = record {
  laid : WritesOnly (g.R.Rack.seen l.initial.rack) (g.R.Rack.seen l.rack) (InSupers l.plan l.place);
  stand : (n : ℕ) → n < l.number → LeavesSuper l.plan l.birth l.place n (g.R.Rack.seen l.initial.rack) (g.R.Rack.seen l.rack);
  runs : g.R.Rack.runs l.initial.rack l.rack;
}
