-- What contents hold in a call that makes no change of the book but losses.
use Rattle.std.specs.Prelude.{ℕ, List}
use Rattle.rack.specs.Values.{Values}
use Rattle.rack.specs.Seen.{RackView}
use Rattle.raid_laws.specs.Raid.{Raid}
use Rattle.transition_laws.specs.Changes.{Change}
use Rattle.transition_laws.specs.Losses.{AreLosses}
use Rattle.transition_laws.specs.Makes.{Makes}

-- Losses are all that a call makes of the book, of any values: at each moment a stop leaves contents that hold the book but for losses.
pub record LosesAlone (v w : Raid) (a b : RackView) : Type 0 where
  pub changes : List Change
  pub losses : AreLosses changes
  pub makes : (vals : ℕ → ℕ → Values) → Makes changes v v w vals vals a b
