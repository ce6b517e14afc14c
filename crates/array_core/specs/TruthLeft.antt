-- The truth of an array in what stops in a call leave.
use Rattle.std.specs.Prelude.{◌≡◌, ◌⊎◌, ℕ, Some}
use Rattle.rack.specs.Seen.{Image, RackView}
use Rattle.rack.specs.Moments.{Leaves}
use Rattle.md_super.specs.declared.superblock.Super.{Super}
use Rattle.pool_state.specs.declared.contents.State.{State}
use Rattle.array_image.specs.Arrays.{replayed}
use Rattle.array_image.specs.Left.{IsInside, IsLeft}
use Rattle.array_image.specs.Supers.{truth_in}
use Rattle.array_model.specs.ArrayCalls.{KeepsSupers}

-- the truth of array n by the state s is one that a stop before might leave, or such a new one
abbrev pub HasTruthOf : State → ℕ → RackView → (Super → Type 0) → Image → Type 0
HasTruthOf s n a new r = (t : Super) → truth_in s r n ≡ Some t → ((before : Image) × IsLeft a before × (truth_in s before n ≡ Some t)) ⊎ new t

-- So it is at each moment of a call and after it, where H held before it.
pub record LeavesTruth (s : State) (n : ℕ) (new : Super → Type 0) (H : Type 0) (a b : RackView) : Type 0 where
  pub leaves : a.traced → Leaves a b (λ c. IsInside a.sectors c → H → HasTruthOf s n a new (replayed a.sectors c))
  pub after : H → (r : Image) → IsLeft b r → HasTruthOf s n a new r

-- The superblocks of array n are those of contents that a stop before might leave, at each moment of a call and after it.
pub record LeavesSupers (n : ℕ) (a b : RackView) : Type 0 where
  pub leaves : a.traced → Leaves a b (λ c. IsInside a.sectors c → KeepsSupers n a (replayed a.sectors c))
  pub after : (r : Image) → IsLeft b r → KeepsSupers n a r
