use Rattle.std.proofs.Common.{refl, None}
use Rattle.std.specs.Prelude.{replicate}
use Rattle.slice_rack.proofs.Blank.{no_seat}
use Rattle.slice_rack.proofs.no_seats.Goals as goal

pub returns : goal.returns
returns c = no_seat (replicate 16 None) refl
