use Rattle.std.proofs.Common.{length}
use Rattle.shr_tool.proofs.showing.+add_drives.Given as goal

abbrev pub decreases-add_drives : goal.decreases-add_drives
decreases-add_drives l = length l.drives.now
