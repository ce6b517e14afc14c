use Rattle.std.proofs.Common.{refl}
use Rattle.array_sync.proofs.zeros.zero_sector.Goals as goal

pub returns : goal.returns
returns c = refl
