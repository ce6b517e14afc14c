use Rattle.std.proofs.Common.{length, ◌-◌}
use Rattle.shr_tool.proofs.layout.print.+put_unused.Given as goal

abbrev pub decreases-put_unused : goal.decreases-put_unused
decreases-put_unused g l = length l.units.now - l.place
