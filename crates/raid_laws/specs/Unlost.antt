-- What calls that mark losses leave of the state, and of its copies as they stand in the log slices, where few drives are lost.
use Rattle.std.specs.Prelude.{◌≡◌, ◌≢◌, ℕ, true}
use Rattle.rack.specs.Seen.{RackView, IsLive}
use Rattle.rack.specs.Values.{Keeps}
use Rattle.pool_state.specs.declared.contents.State.{State}
use Rattle.array_image.specs.Places.{log_slice}
use Rattle.array_image.specs.States.{is_current}

-- a place that was current is so yet
abbrev pub KeepsPlace : State → State → ℕ → Type 0
KeepsPlace s t p = is_current s p ≡ true → is_current t p ≡ true

-- Where no drive is lost, the state is the same. A drive's copy keeps its values where no other drive is lost, since marks are written on the
-- drives that are left.
pub record KeepsUnlost (s t : State) (a b : RackView) : Type 0 where
  pub state : ((p : ℕ) → KeepsPlace s t p) → t ≡ s
  pub copies :
      (p : ℕ) → ((k : ℕ) → k ≢ p → KeepsPlace s t k) → IsLive a b (log_slice p) 0 → Keeps (a.held (log_slice p) 0) (b.held (log_slice p) 0)
