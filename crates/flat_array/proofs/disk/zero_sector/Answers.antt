use Rattle.std.proofs.Common.{rules}
use Rattle.flat_array.specs.Disk.{zero_sector}
use Rattle.flat_array.proofs.disk.zero_sector.Goals as goal

pub returns : goal.returns
unfolding zero_sector
returns c = search rules
