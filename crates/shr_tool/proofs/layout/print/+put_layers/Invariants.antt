use Rattle.std.proofs.Common.{length}
use Rattle.shr_tool.proofs.layout.print.+put_layers.Given as goal

abbrev pub decreases-put_layers : goal.decreases-put_layers
decreases-put_layers g l = length l.layers.now
