-- What a step of a reshape asks for where contents are spoken of.
use Rattle.std.proofs.Common.{◌≡◌, ◌⊎◌, ℕ, ◌-◌, ◌%◌, ◌^◌, ◌≤◌}
use Rattle.rack.specs.Values.{Values}
use Rattle.parity.specs.Xor.{zeros}
use Rattle.array_model.specs.View.{sectors_of, View}
use Rattle.raid_laws.specs.Raid.{Raid}

-- an array's superblocks leave no row to resync, or begin with a whole one
abbrev pub LeavesWholeRows : View → Type 0
LeavesWholeRows u = (u.truth.resync_offset ≡ 2 ^ 64 - 1) ⊎ (u.truth.resync_offset % 128 ≡ 0)

-- The superblocks of array n leave whole rows to resync, and past the array's end its values are zeros.
pub record FitsReshape (v : Raid) (n : ℕ) (vals : ℕ → ℕ → Values) : Type 0 where
  pub whole : LeavesWholeRows (v.arrays n)
  pub zeros_past : (y : ℕ) → sectors_of (v.arrays n) ≤ y → (vals n y).current ≡ zeros 512
