use Rattle.std.proofs.Common.{rules}
use Rattle.rack_mem.specs.Zeros.{zeros}
use Rattle.rack_mem.proofs.memory.zero_sector.Goals as goal

pub returns : goal.returns
unfolding zeros
returns c = search rules
