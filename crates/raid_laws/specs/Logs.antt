-- What the log slices say during a part of a call.
use Rattle.std.specs.Prelude.{◌≡◌, ℕ, Bool, Some}
use Rattle.rack.specs.Seen.{Image, RackView}
use Rattle.rack.specs.Moments.{Leaves}
use Rattle.pool_state.specs.declared.contents.State.{State}
use Rattle.array_image.specs.Left.{IsInside}
use Rattle.array_image.specs.States.{state_in}
use Rattle.log_laws.specs.Saying.{HoldsCopies, RecoversTo}
use Rattle.raid_laws.specs.Book.{OnlyMarksSince}
use Rattle.raid_laws.specs.Since.{HoldsSince, HoldsTakenSince, KeepsSince, KeepsTakenSince}

-- Contents whose log slices say a state between two: no log is damaged, and the copies agree once the pending record is replayed.
pub record LogsBetween (s t : State) (sectors : ℕ → ℕ) (c : Image) : Type 0 where
  pub state : State
  pub later : OnlyMarksSince s state
  pub sooner : OnlyMarksSince state t
  pub says : RecoversTo state sectors c

-- The state that contents say as they stand came of this one.
abbrev pub StandsSince : State → Image → Type 0
StandsSince s c = (stood : State) → state_in c ≡ Some stood → OnlyMarksSince s stood

-- A part of a call, as the log slices show it: at each moment they say a state between the two, also as they stand, and after it they hold the last one's copies. Copies that
-- were such as calls leave that began with an earlier state stay so, and those that are such as a drive's joining leaves, by an earlier state.
pub record KeepsLogs (s t : State) (a b : RackView) : Type 0 where
  pub leaves : a.traced → Leaves a b (λ c. IsInside a.sectors c → LogsBetween s t a.sectors c)
  pub stands : a.traced → Leaves a b (λ c. IsInside a.sectors c → StandsSince s c)
  pub holds : HoldsCopies t b
  pub since : (base : State) → OnlyMarksSince base s → HoldsSince base a → KeepsSince base a b
  pub joining : (new : ℕ → Bool) (early next : State) → OnlyMarksSince next s → HoldsTakenSince new early next a → KeepsTakenSince new early next a b
