use Rattle.std.proofs.Common.{refl}
use Rattle.std.specs.Prelude.{replicate}
use Rattle.slice_rack.proofs.Blank.{no_sector}
use Rattle.slice_rack.proofs.no_slices.Goals as goal

pub returns : goal.returns
returns c = no_sector (replicate 272 (record { first = 0; sectors = 0 })) refl
