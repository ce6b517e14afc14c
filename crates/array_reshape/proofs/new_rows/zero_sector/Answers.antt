use Rattle.std.proofs.Common.{refl}
use Rattle.array_core.specs.Stands.{blank}
use Rattle.array_reshape.proofs.new_rows.zero_sector.Goals as goal

pub returns : goal.returns
unfolding blank
returns c = refl
