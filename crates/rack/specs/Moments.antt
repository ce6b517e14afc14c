-- Stops by moment: the past stays as it was, and each later stop leaves what a call allows.
use Rattle.std.specs.Prelude.{◌≡◌, ℕ, ◌<◌, ◌≤◌}
use Rattle.rack.specs.Seen.{Image, RackView, IsLive, IsPick}

-- time goes on, the past is kept, and each stop since has left contents with this property
pub record Leaves (a b : RackView) (P : Image → Type 0) : Type 0 where
  pub later : a.clock ≤ b.clock
  pub kept : (k : ℕ) (c : Image) → k ≤ a.clock → a.stops k c → b.stops k c
  pub past : (k : ℕ) (c : Image) → k ≤ a.clock → b.stops k c → a.stops k c
  pub new : (k : ℕ) (c : Image) → a.clock < k → k ≤ b.clock → b.stops k c → P c

-- what holds of a rack at any moment: a stop now leaves held values, and may leave the contents as they read
pub record IsSound (x : RackView) : Type 0 where
  pub only_held : (c : Image) → x.stops x.clock c → IsPick x x x.held c
  pub now :
      (c : Image) × x.stops x.clock c × ((d s : ℕ) → IsLive x x d s → c d s ≡ (x.held d s).current)
