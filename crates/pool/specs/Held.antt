-- What the arrays of a pool hold, from one moment to a later one.
use Rattle.std.specs.Prelude.{◌≡◌, ℕ, ◌<◌}
use Rattle.rack.specs.Values.{Keeps}
use Rattle.rack.specs.Seen.{RackView}
use Rattle.array_model.specs.View.{sectors_of}
use Rattle.raid_laws.specs.Raid.{IsTracked, Raid, held_in, live_of}

-- Arrays are of as many sectors as before. Each of these that can be had afterwards could be had before, and where the array was told it is told still, and
-- the sector keeps its values.
pub record KeepsHeld (v w : Raid) (a b : RackView) : Type 0 where
  pub sectors : (n : ℕ) → sectors_of (w.arrays n) ≡ sectors_of (v.arrays n)
  pub live : (n s : ℕ) → n < v.state.made → live_of w n s → live_of v n s
  pub told : (n s : ℕ) → n < v.state.made → live_of w n s → IsTracked v a n → IsTracked w b n
  pub keeps : (n s : ℕ) → n < v.state.made → s < sectors_of (v.arrays n) → live_of w n s → IsTracked v a n → Keeps (held_in v a n s) (held_in w b n s)
