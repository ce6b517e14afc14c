use Rattle.std.proofs.Common.{◌≡◌, ℕ, zero, suc, replicate, false, refl}
use Rattle.commit_log.specs.Slices.{is_in}
use Rattle.commit_log.proofs.slices.Slices.none.Goals as goal

no_flag : (n d : ℕ) → is_in (replicate n false) d ≡ false
no_flag zero d = refl
no_flag (suc n) zero = refl
no_flag (suc n) (suc d) = no_flag n d

pub returns : goal.returns
returns c d = no_flag 272 d
