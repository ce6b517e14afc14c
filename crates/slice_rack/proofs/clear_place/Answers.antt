use Rattle.std.proofs.Common.{arith}
use Rattle.slice_rack.proofs.clear_place.Goals as goal

pub returns-clause-cleared : goal.returns-clause-cleared
returns-clause-cleared c d here = c.loop-d.invariant.0 d (omega arith) here
