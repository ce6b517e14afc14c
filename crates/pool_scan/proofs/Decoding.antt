-- What decoded sectors are.
use Rattle.std.proofs.Common.{◌≡◌, ℕ, Bool, true, false, List, Ok, Err, not, if◌then◌else◌, refl, ◌&&◌}
use Rattle.std.specs.Result.{result_ok}
use Rattle.pool_state.specs.declared.contents.Copied.{Copied}
use Rattle.pool_state.specs.declared.contents.StateFault.{StateFault}
use Rattle.pool_state.specs.declared.contents.StateFault.TheVariants.{NotState, BadSum, BadField}
use Rattle.pool_state.specs.Sector.{decoded, is_state, has_right_sum, is_canonical, copied_of}
use Rattle.pool_state.specs.Valid.{is_valid}
use Rattle.pool_scan.specs.Scanning.{IsValidCopy}

-- what passes all tests is valid
chosen_is_valid :
    (named summed canonical valid : Bool) (copy : Copied)
    → valid ≡ is_valid copy.state copy.own
    → IsValidCopy (result_ok {T = Copied} {E = StateFault} (
    if not named then Err NotState
    else if not summed then Err BadSum
    else if not (canonical && valid) then Err BadField
    else Ok copy))
chosen_is_valid false summed canonical valid copy is = tt
chosen_is_valid true false canonical valid copy is = tt
chosen_is_valid true true false valid copy is = tt
chosen_is_valid true true true false copy is = tt
chosen_is_valid true true true true copy is = cc

-- a state that was decoded is valid
pub decoded_is_valid : (bytes : List ℕ) → IsValidCopy (result_ok (decoded bytes))
decoded_is_valid bytes =
    chosen_is_valid (is_state bytes) (has_right_sum bytes) (is_canonical bytes)
    (is_valid (copied_of bytes).state (copied_of bytes).own) (copied_of bytes) refl
