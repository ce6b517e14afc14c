-- The calls of one array.
--
-- `s` is the state whose marks the images go by, `durable` the array's shape by these marks, and vals what its sectors hold.
-- A call that meets Gone notes the place and goes on; the images go by the old marks until somebody commits new ones.
use Rattle.std.specs.Prelude.{◌≡◌, ◌⊎◌, ℕ, Bool, false, ◌==◌, if◌then◌else◌, List, Some}
use Rattle.rack.specs.Values.{Values, Keeps, append}
use Rattle.rack.specs.Seen.{Image, RackView, IsLive, SameRack}
use Rattle.rack.specs.Moments.{Leaves}
use Rattle.rack.specs.Calls.{KeepsAll}
use Rattle.md_super.specs.declared.superblock.Super.{Super}
use Rattle.pool_state.specs.declared.contents.State.{State}
use Rattle.array_image.specs.Places.{member_slice, super_sector}
use Rattle.array_image.specs.Supers.{truth_in}
use Rattle.array_image.specs.SoundArray.{array_fields}
use Rattle.array_image.specs.Arrays.{Shape}
use Rattle.array_image.specs.Held.{IsSynced}
use Rattle.array_image.specs.Arrays.{replayed}
use Rattle.array_image.specs.Left.{IsInside, IsLeft, IsApart, TargetsExist, PendingOnlyFor, IsPendingOnlyFor, IsWhole, TargetsInside}
use Rattle.array_model.specs.View.{View, IsNoted, shape_of, spent_in}
use Rattle.array_model.specs.Says.{ImageShowsArray, ArrayInvariant}

-- Contents, replayed, in a call of one array: this array's slices have P, and each other sector is as a stop before might leave it.
-- The log's gates and halves are whatever the log makes of them.
pub record ImageInCall (array : ℕ) (a b : RackView) (P : Image → Type 0) (c : Image) : Type 0 where
  pub before : Image
  pub left : IsLeft a before
  pub others : (d t : ℕ) → IsApart array d t → replayed a.sectors c d t ≡ before d t
  pub own : P (replayed a.sectors c)
  -- no log is damaged by it, nothing comes to be pending for others, and nothing for a sector that no slice has
  pub whole : IsWhole left.0 → IsWhole c
  pub calm : PendingOnlyFor array a → IsPendingOnlyFor array c
  pub bounded : TargetsExist a → TargetsInside a.sectors c

-- A call of an array: during it images say `during`, and after it the array holds `vals_after` by the shape `after`. Reads, writes,
-- syncs, a settled or clean mark and every row of maintenance are this record.
pub record ArrayCall (s : State) (v w : View) (spent : ℕ → Bool) (a b : RackView)
    (durable : Shape) (vals : ℕ → Values) (during : Image → Type 0) (after : Shape) (vals_after : ℕ → Values) : Type 0 where
  pub stays : SameRack a b
  pub noted : IsNoted v w a b
  -- whatever holds, time goes on, the past stays, and nothing turns but this array's slices; these say it where the array held
  pub leaves :
      a.traced
      → Leaves a b (λ c. IsInside a.sectors c → ImageInCall v.number a b (λ r. ArrayInvariant s durable v vals spent a → during r) c)
  pub holds : ArrayInvariant s durable v vals spent a → ArrayInvariant s after w vals_after spent b
  -- other arrays and the states are as before
  pub apart : (d t : ℕ) → IsLive a b d t → IsApart v.number d t → Keeps (a.held d t) (b.held d t)
  -- and nothing becomes pending for them
  pub calm : PendingOnlyFor v.number a → PendingOnlyFor v.number b
  -- nor for a sector that no slice has
  pub bounded : TargetsExist a → TargetsExist b

-- the values after a write to one sector
abbrev pub appended_at : ℕ → List ℕ → (ℕ → Values) → ℕ → Values
appended_at sector from vals y = if y == sector then append (vals y) from else vals y

-- a map of the sectors that are spent at some later moment has each one that is spent now
abbrev pub IncludesSpent : View → (ℕ → Bool) → Type 0
IncludesSpent w spent = (y : ℕ) → spent y ≡ false → spent_in w y ≡ false

-- a call that moves no value and no position
abbrev pub Keeping : (s : State) (v w : View) (spent : ℕ → Bool) (a b : RackView) (durable : Shape) (vals : ℕ → Values) → Type 0
Keeping s v w spent a b durable vals = ArrayCall s v w spent a b durable vals (ImageShowsArray s v.number durable vals spent) durable vals

-- a read of one sector
pub record ReadsArray (s : State) (v w : View) (spent : ℕ → Bool) (a b : RackView) (durable : Shape) (vals : ℕ → Values)
    (sector : ℕ) (into : List ℕ) : Type 0 where
  pub acts : Keeping s v w spent a b durable vals
  -- nothing was written, so whatever is pending for other arrays stays so
  pub keeps : KeepsAll a b
  pub value : ArrayInvariant s durable v vals spent a → spent sector ≡ false → into ≡ (vals sector).current

-- a write of one sector
abbrev pub WritesArray : (s : State) (v w : View) (spent : ℕ → Bool) (a b : RackView) (durable : Shape) (vals : ℕ → Values) (sector : ℕ) (from : List ℕ) → Type 0
WritesArray s v w spent a b durable vals sector from =
    ArrayCall s v w spent a b durable vals (ImageShowsArray s v.number durable (appended_at sector from vals) spent) durable (appended_at sector from vals)

-- after a sync whoever is left has one value in each sector
pub record SyncsArray (s : State) (v w : View) (spent : ℕ → Bool) (a b : RackView) (durable : Shape) (vals : ℕ → Values) : Type 0 where
  pub acts : Keeping s v w spent a b durable vals
  pub keeps : KeepsAll a b
  pub settled : ArrayInvariant s durable v vals spent a → IsSynced (shape_of w) w.number b.held

-- superblocks of array n are those of contents that a stop before might leave
abbrev pub KeepsSupers : ℕ → RackView → Image → Type 0
KeepsSupers n a r = (before : Image) × IsLeft a before × ((place : ℕ) → r (member_slice place n) super_sector ≡ before (member_slice place n) super_sector)

-- the truth of array n has these fields of an array
abbrev pub HasFields : State → ℕ → Super → Image → Type 0
HasFields s n t r = (u : Super) → truth_in s r n ≡ Some u → array_fields u ≡ array_fields t

-- One row of maintenance, or a step of it, of an array of which w is seen after it and `next` once the row is done and nobody went: at
-- each moment shape, values and superblocks are those before or those after it, and after it the ones it ended with.
pub record StepRefines (s : State) (v next w : View) (spent : ℕ → Bool) (a b : RackView) (vals : ℕ → Values) (after : Shape) (vals_after : ℕ → Values) : Type 0 where
  pub stays : SameRack a b
  pub leaves :
      a.traced
      → Leaves a b (λ c. IsInside a.sectors c → ImageInCall v.number a b
      (λ r. ArrayInvariant s (shape_of v) v vals spent a
      → (ImageShowsArray s v.number (shape_of v) vals spent r × KeepsSupers v.number a r)
      ⊎ (ImageShowsArray s v.number (shape_of next) vals_after spent r × HasFields s v.number next.truth r)) c)
  pub holds : ArrayInvariant s (shape_of v) v vals spent a → ArrayInvariant s after w vals_after spent b
  pub apart : (d t : ℕ) → IsLive a b d t → IsApart v.number d t → Keeps (a.held d t) (b.held d t)
  pub calm : PendingOnlyFor v.number a → PendingOnlyFor v.number b
  pub bounded : TargetsExist a → TargetsExist b
