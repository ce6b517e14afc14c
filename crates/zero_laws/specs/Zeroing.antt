-- What zeroing rows of a young array asks for where contents are spoken of, and what it makes of the book.
use Rattle.std.proofs.Common.{◌≡◌, ℕ, ◌-◌, ◌<◌, Bool, false, Result}
use Rattle.rack.specs.Seen.{RackView}
use Rattle.rack.specs.Values.{Values}
use Rattle.parity.specs.Xor.{zeros}
use Rattle.pool_state.specs.declared.contents.Work.TheVariants.{Zero}
use Rattle.array_image.specs.Held.{IsSynced}
use Rattle.array_image.specs.SoundArray.{first_unsynced}
use Rattle.array_image.specs.Supers.{is_reshaping}
use Rattle.array_model.specs.View.{rows_of, sectors_of, shape_of}
use Rattle.sync_laws.specs.Steps.{DoesRows}
use Rattle.raid_laws.specs.Raid.{Raid}
use Rattle.transition_laws.specs.Holds.{has_sector}
use Rattle.growth_laws.specs.Growing.{GrowsBy, Lacks, MakesTurn, zeroes}

-- No reshape of array n has begun, its members' sectors have one value each, and the sectors before its end that it doesn't have, those of rows left
-- to zero, have zeros for values.
pub record FitsZero (v : Raid) (n : ℕ) (x : RackView) (vals : ℕ → ℕ → Values) : Type 0 where
  pub steady : is_reshaping (v.arrays n).truth ≡ false
  pub single : IsSynced (shape_of (v.arrays n)) n x.held
  pub zeros : (y : ℕ) → y < sectors_of (v.arrays n) → has_sector (v.arrays n) y ≡ false → (vals n y).current ≡ zeros 512

-- So many rows of young array n are zeroed, with what contents hold in the call: the change is made, by the book before its commit.
pub record MakesZeroes (n rows : ℕ) (v w : Raid) (a b : RackView) (answered : Bool) : Type 0 where
  pub grows : GrowsBy (zeroes n rows) (Lacks (Zero n)) v w a b answered
  pub contents : MakesTurn (zeroes n rows grows.turns.mid) grows.turns.is_done (FitsZero v n a) v w a b

-- that of the next rows: some of them, at least one and at most so many
abbrev pub MakesZeroesNext : (n most : ℕ) → Raid → Raid → RackView → RackView → {E : Type 0} → Result ℕ E → Type 0
MakesZeroesNext n most v w a b result = DoesRows (λ rows. MakesZeroes n rows v w a b) (rows_of (v.arrays n) - first_unsynced (v.arrays n).truth) most result
