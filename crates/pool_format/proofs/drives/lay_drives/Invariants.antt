use Rattle.std.proofs.Common.{ℕ, ◌<◌}
use Rattle.rack.specs.Sequences.{WritesOnly}
use Rattle.pool_format.specs.Drives.{LeavesLaid}
use Rattle.pool_format.specs.Writing.{InLayings}
use Rattle.pool_format.proofs.drives.lay_drives.Given as goal

-- tables and data alone were written so far, those of the drives up to here
abbrev pub invariant-loop-place : goal.invariant-loop-place
invariant-loop-place g l = record {
  only : WritesOnly (g.R.Rack.seen l.initial.rack) (g.R.Rack.seen l.rack) (InLayings l.plan (g.R.Rack.seen l.initial.rack).sectors);
  laid : (d : ℕ) → d < l.place → LeavesLaid l.plan l.birth d (g.R.Rack.seen l.initial.rack) (g.R.Rack.seen l.rack);
  runs : g.R.Rack.runs l.initial.rack l.rack;
}
