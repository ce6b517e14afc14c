-- What the arrays' contents mean at each moment of a change of their group.
use Rattle.std.specs.Prelude.{◌≡◌, ◌⊎◌, ℕ, ◌<◌, ◌≤◌, false, nat_eq, List, length, slice_get, Some}
use Rattle.std.specs.List.{starts_with}
use Rattle.rack.specs.Values.{MayLeave}
use Rattle.rack.specs.Seen.{Image, RackView}
use Rattle.lvm_label.specs.declared.label.Label.{Label}
use Rattle.lvm_label.specs.Label.{label_word}
use Rattle.lvm_group.specs.Extending.{extended, next_seqno}
use Rattle.lvm_group.specs.Opening.{Means}
use Rattle.lvm_group.specs.Parts.{Array, label_on}
use Rattle.lvm_group.specs.Runs.{Linear, data_start}
use Rattle.lvm_group.specs.Sequences.{AreTold}
use Rattle.lvm_group.specs.Writing.{own_area}

-- each sector before the first extents of the first arrays, so many, holds its value of these contents alone
abbrev pub HoldOnly : RackView → ℕ → Image → Type 0
HoldOnly a arrays c = (d s : ℕ) (v : List ℕ) → d < arrays → s < data_start → MayLeave (a.held d s) v → v ≡ c d s

-- sector 0 has no label, as LVM2 would find it before that of sector 1, and a label that is found has the pool's metadata area
pub record HasOwnArea (a : Array) : Type 0 where
  pub free : starts_with nat_eq (a 0) label_word ≡ false
  pub area : (label : Label) → label_on a ≡ Some label → slice_get label.metadata.items 0 ≡ Some own_area

-- the volume over so many arrays
abbrev pub over : ℕ → Linear → Linear
over joined l = record { extent = l.extent; arrays = joined; runs = l.runs }

-- the joined arrays say a group of the pool with this volume and seqno, and none of them is bad
abbrev pub MeansVolume : List ℕ → ℕ → (ℕ → ℕ) → Linear → ℕ → Image → Type 0
MeansVolume pool joined sectors l seqno c = Means pool l.extent joined sectors (over joined l) seqno c

-- when a call begins the joined arrays hold these contents alone before their first extents; they are told and not spent at its end,
-- and say this volume
pub record IsSettled (pool : List ℕ) (joined : ℕ) (l : Linear) (seqno : ℕ) (a b : RackView) (c : Image) : Type 0 where
  pub told : AreTold a b joined
  pub only : HoldOnly a joined c
  pub areas : (array : ℕ) → array < joined → HasOwnArea (c array)
  pub means : MeansVolume pool joined a.sectors l seqno c

-- contents that a stop in extending a volume leaves: of the volume as it was or of the extended one, whichever arrays are joined
abbrev pub IsOldOrNew : List ℕ → Linear → ℕ → List ℕ → RackView → RackView → Image → Type 0
IsOldOrNew pool l seqno numbers a b c =
    (joined : ℕ) (before : Image) → length numbers ≤ joined → IsSettled pool joined l seqno a b before
    → MeansVolume pool joined a.sectors l seqno c ⊎ MeansVolume pool joined a.sectors (extended l numbers) (next_seqno seqno) c

-- contents from which the volume can be extended again
pub record IsVolume (pool : List ℕ) (joined : ℕ) (l : Linear) (seqno : ℕ) (sectors : ℕ → ℕ) (c : Image) : Type 0 where
  pub areas : (array : ℕ) → array < joined → HasOwnArea (c array)
  pub means : MeansVolume pool joined sectors l seqno c

-- a stop leaves such contents alone
abbrev pub LeavesVolume : List ℕ → ℕ → Linear → ℕ → (ℕ → ℕ) → RackView → Type 0
LeavesVolume pool joined l seqno sectors b = (after : Image) × HoldOnly b joined after × IsVolume pool joined l seqno sectors after

-- once it is extended, a stop leaves the extended volume
abbrev pub IsNew : List ℕ → Linear → ℕ → List ℕ → RackView → RackView → Type 0
IsNew pool l seqno numbers a b =
    (joined : ℕ) (before : Image) → length numbers ≤ joined → IsSettled pool joined l seqno a b before
    → LeavesVolume pool joined (extended l numbers) (next_seqno seqno) a.sectors b
