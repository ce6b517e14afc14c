use Rattle.std.proofs.Common.{length}
use Rattle.image_text.proofs.examining.+examine_slices.Given as goal

abbrev pub decreases-examine_slices : goal.decreases-examine_slices
decreases-examine_slices g l = length l.entries.now
