use Rattle.std.proofs.Common.{ℕ, ◌<◌}
use Rattle.rack.specs.Sequences.{WritesOnly}
use Rattle.pool_format.specs.Drives.{LeavesClosed, LeavesSingle}
use Rattle.pool_format.specs.Writing.{InClosings}
use Rattle.pool_format.proofs.drives.close_drives.Given as goal

-- gates and superblocks alone were written so far, those of the drives up to here
abbrev pub invariant-loop-place : goal.invariant-loop-place
invariant-loop-place g l = record {
  laid : WritesOnly (g.R.Rack.seen l.initial.rack) (g.R.Rack.seen l.rack) (InClosings l.plan);
  closed : (d : ℕ) → d < l.place → LeavesClosed l.plan l.birth d (g.R.Rack.seen l.initial.rack) (g.R.Rack.seen l.rack);
  single : (d : ℕ) → d < l.place → LeavesSingle d (g.R.Rack.seen l.initial.rack) (g.R.Rack.seen l.rack);
  runs : g.R.Rack.runs l.initial.rack l.rack;
}
