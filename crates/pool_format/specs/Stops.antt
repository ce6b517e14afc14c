-- What a stop inside the making of a pool leaves.
use Rattle.std.specs.Prelude.{◌≡◌, ◌⊎◌, ℕ, ◌<◌, List}
use Rattle.rack.specs.Values.{MayLeave}
use Rattle.rack.specs.Seen.{Image, RackView, IsLive}
use Rattle.rack.specs.Moments.{Leaves}
use Rattle.rack.specs.Sequences.{IsMix}
use Rattle.array_image.specs.Places.{state_sector}
use Rattle.pool_format.specs.declared.Birth.{Birth}
use Rattle.pool_format.specs.declared.planning.NewPool.{NewPool}
use Rattle.pool_format.specs.Data.{IsGroupRead}
use Rattle.pool_format.specs.Drives.{HasParts, IsCopyOf, IsWhole, no_state}
use Rattle.pool_format.specs.Writing.{InCleared}

-- Copies of the state come drive by drive: those before a place have theirs, that place's has it or what was there, and those behind
-- it have what was there.
pub record HaveCopiesTo (plan : NewPool) (birth : Birth) (a b : RackView) (old : ℕ → List ℕ → Type 0) (k : ℕ) (c : Image) : Type 0 where
  pub before : (d : ℕ) → d < k → IsLive a b d state_sector → IsCopyOf plan birth d (c d state_sector)
  pub here : IsLive a b k state_sector → IsCopyOf plan birth k (c k state_sector) ⊎ old k (c k state_sector)
  pub behind : (d : ℕ) → k < d → IsLive a b d state_sector → old d (c d state_sector)

-- what stood in the drives' sectors of the state
abbrev pub Stood : RackView → ℕ → List ℕ → Type 0
Stood a d v = MayLeave (a.held d state_sector) v

-- what stops leave while the copies are written, over what stood there
abbrev pub CopiesInOrder : NewPool → Birth → RackView → RackView → Type 0
CopiesInOrder plan birth a b = a.traced → Leaves a b (λ c. (k : ℕ) × HaveCopiesTo plan birth a b (Stood a) k c)

-- What a stop leaves. First copies of a state are cleared, and all else is as it was. Then no drive has a copy of a state. Then each drive has
-- all its other parts, and they get their copies one by one; what their arrays hold is read as the volume's group.
pub data IsStop (plan : NewPool) (birth : Birth) (a b : RackView) (c : Image) : Type 0 where
  clearing : IsMix a b (InCleared plan) c → IsStop plan birth a b c
  filling : ((d : ℕ) → IsLive a b d state_sector → c d state_sector ≡ no_state) → IsStop plan birth a b c
  saying :
      (k : ℕ) → ((d : ℕ) → IsWhole a d → HasParts plan birth d (a.sectors d) (c d)) → HaveCopiesTo plan birth a b (λ d v. v ≡ no_state) k c
      → IsGroupRead plan birth → IsStop plan birth a b c

-- at each moment
abbrev pub StopsAmid : NewPool → Birth → RackView → RackView → Type 0
StopsAmid plan birth a b = a.traced → Leaves a b (IsStop plan birth a b)
