-- What the readiness of a young array asks for where contents are spoken of.
use Rattle.std.proofs.Common.{◌≡◌, ℕ, false}
use Rattle.rack.specs.Seen.{RackView}
use Rattle.array_image.specs.Supers.{is_reshaping}
use Rattle.array_core.specs.TruthHeld.{HoldTruth}
use Rattle.raid_laws.specs.Raid.{Raid}

-- No reshape of array n has begun, and its superblocks say its truth, durably: so each image says that its rows are zeroed.
pub record FitsReady (v : Raid) (n : ℕ) (x : RackView) : Type 0 where
  pub steady : is_reshaping (v.arrays n).truth ≡ false
  pub supers : HoldTruth (v.arrays n) x
