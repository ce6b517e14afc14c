-- What bringing the texts of the joined arrays up to the newest one leaves.
use Rattle.std.specs.Prelude.{◌≡◌, ◌⊎◌, ℕ, ◌<◌, ◌≤◌, Bool, true, List, Some, Result, Ok}
use Rattle.rack.specs.declared.Gone.{Gone}
use Rattle.rack.specs.Seen.{Image, RackView}
use Rattle.rack.specs.Moments.{Leaves}
use Rattle.rack.specs.Sequences.{OnlyReads, WritesOnly}
use Rattle.lvm_text.specs.declared.group.Group.{Group}
use Rattle.lvm_text.specs.Group.{group_of}
use Rattle.lvm_group.specs.Changing.{Changes}
use Rattle.lvm_group.specs.Group.{group_in}
use Rattle.lvm_group.specs.Images.{HasOwnArea, HoldOnly, IsSettled, IsVolume, MeansVolume}
use Rattle.lvm_group.specs.Opening.{AreServed, says}
use Rattle.lvm_group.specs.Parts.{part_of}
use Rattle.lvm_group.specs.Runs.{Linear, data_start}
use Rattle.lvm_group.specs.Writing.{IsReadBack}

-- arrays of so many sectors, as many as these, have room for their metadata
abbrev pub HaveAreas : (ℕ → ℕ) → ℕ → Type 0
HaveAreas sectors arrays = (array : ℕ) → array < arrays → data_start ≤ sectors array

-- a text is written as a change writes it, or nothing is, where the arrays are even, too many or too small
abbrev pub Rewrites : List ℕ → List ℕ → ℕ → Bool → RackView → RackView → Type 0
Rewrites pool text n even a b =
    (OnlyReads a b × (n ≤ 16 → HaveAreas a.sectors n → even ≡ true))
    ⊎ ((result : Result (Unit {0}) Gone) × Changes pool text n a b result × ((group : Group) → group_of text ≡ Ok group → IsReadBack pool text n a.sectors group))

-- a sector before the first extents of the first arrays, so many
abbrev pub IsBefore : ℕ → ℕ → ℕ → List ℕ → Type 0
IsBefore arrays d s v = (d < arrays) × (s < data_start)

-- contents of which each joined array says a group of the volume's seqno
pub record IsEven (pool : List ℕ) (joined : ℕ) (l : Linear) (seqno : ℕ) (sectors : ℕ → ℕ) (c : Image) : Type 0 where
  pub areas : (array : ℕ) → array < joined → HasOwnArea (c array)
  pub means : MeansVolume pool joined sectors l seqno c
  pub even : (array : ℕ) → array < joined → says seqno (part_of (c array) (sectors array)) ≡ true

-- A volume was opened by this group. Where that is the group of the contents, each stop leaves the volume, with the pool's metadata areas, and at the end
-- all joined arrays say the group's seqno, unless a call was refused.
pub record BringsUp (pool : List ℕ) (joined : ℕ) (l : Linear) (seqno : ℕ) (group : Group) (a b : RackView) : Type 0 where
  pub writes : WritesOnly a b (IsBefore joined)
  pub right : (before : Image) → IsSettled pool joined l seqno a b before → AreServed a b a.disks → group_in before a.sectors joined ≡ Some group
  pub images :
      a.traced
      → Leaves a b (λ c. (before : Image) → IsSettled pool joined l seqno a b before → group_in before a.sectors joined ≡ Some group → IsVolume pool joined l seqno a.sectors c)
  pub even :
      (before : Image) → IsSettled pool joined l seqno a b before → AreServed a b a.disks → joined ≤ 16
      → (after : Image) × HoldOnly b joined after × IsEven pool joined l seqno a.sectors after
