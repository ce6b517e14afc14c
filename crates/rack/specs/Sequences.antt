-- Calls in a row, as one: reads alone, writes of a list of targets on disks of which some go, syncs, a write made durable.
use Rattle.std.specs.Prelude.{◌≡◌, ◌≢◌, ◌⊎◌, ℕ, Bool, true, false, ◌==◌, ◌||◌, List, [], ◌∷◌, Some, Result, OnOk, IfErr}
use Rattle.rack.specs.declared.Gone.{Gone}
use Rattle.rack.specs.Values.{MayLeave, Keeps, IsSingle}
use Rattle.rack.specs.Seen.{Image, RackView, IsLive, IsPick, Rose, SameRack, appended}
use Rattle.rack.specs.Moments.{Leaves}
use Rattle.rack.specs.Calls.{KeepsAll}
use Rattle.rack.specs.Targets.{Target, is_at, look}

-- nothing was written
pub record OnlyReads (a b : RackView) : Type 0 where
  pub stays : SameRack a b
  pub keeps : KeepsAll a b

-- a value from before, or one that the calls may write
abbrev pub MayBecome : RackView → (ℕ → ℕ → List ℕ → Type 0) → ℕ → ℕ → List ℕ → Type 0
MayBecome a may d s v = MayLeave (a.held d s) v ⊎ may d s v

-- each live sector of some contents does so
abbrev pub IsMix : RackView → RackView → (ℕ → ℕ → List ℕ → Type 0) → Image → Type 0
IsMix a b may c = (d s : ℕ) → IsLive a b d s → MayBecome a may d s (c d s)

-- Nothing came but values that calls in a row may write to their sectors, neither now nor at any moment.
pub record WritesOnly (a b : RackView) (may : ℕ → ℕ → List ℕ → Type 0) : Type 0 where
  pub stays : SameRack a b
  pub others : (d s : ℕ) → IsLive a b d s → ((v : List ℕ) → may d s v → ⊥) → Keeps (a.held d s) (b.held d s)
  pub within : (d s : ℕ) (v : List ℕ) → IsLive a b d s → MayLeave (b.held d s) v → MayBecome a may d s v
  pub stops : a.traced → Leaves a b (IsMix a b may)

-- one of the targets has these bytes for a sector
abbrev pub IsPayload : List Target → ℕ → ℕ → List ℕ → Type 0
IsPayload [] d s v = ⊥
IsPayload (x ∷ others) d s v = ((is_at d s x ≡ true) × (v ≡ x.bytes)) ⊎ IsPayload others d s v

-- A phase: calls that wrote these targets, in any order and with any reads and syncs between, to all disks but those that went.
-- `went` are the disks that had gone before it, `now` those that have after it, each with its cause. A disk that went may hold
-- each target or not.
pub record Phase (a b : RackView) (xs : List Target) (went now : ℕ → Bool) : Type 0 where
  pub only : WritesOnly a b (IsPayload xs)
  pub still : (d : ℕ) → now d ≡ false → went d ≡ false
  pub cause : (d : ℕ) → went d ≡ false → now d ≡ true → Rose (a.faults d) (b.faults d)
  pub last :
      (d s : ℕ) (w : List ℕ) → IsLive a b d s → now d ≡ false → look xs d s ≡ Some w → (b.held d s).current ≡ w

-- one disk more has gone
abbrev pub gone_too : ℕ → (ℕ → Bool) → ℕ → Bool
gone_too disk went d = (d == disk) || went d

-- the disks of `on` were synced, all but those that went
pub record SyncsEach (a b : RackView) (on went now : ℕ → Bool) : Type 0 where
  pub phase : Phase a b [] went now
  pub done : (d s : ℕ) → on d ≡ true → now d ≡ false → IsLive a b d s → IsSingle (b.held d s)

-- a value was written to a sector and its disk synced, or the disk's faults rose
pub record WritesDurably (a b : RackView) (disk sector : ℕ) (value : List ℕ) {X : Type 0} (result : Result X Gone)
    : Type 0 where
  pub stays : SameRack a b
  pub gone : IfErr result (λ e. (e.disk ≡ disk) × Rose (a.faults disk) (b.faults disk))
  pub stops : a.traced → Leaves a b (IsPick a b (appended a.held disk sector value))
  pub within :
      (d s : ℕ) (v : List ℕ) → IsLive a b d s → MayLeave (b.held d s) v → MayLeave (appended a.held disk sector value d s) v
  pub others : (d s : ℕ) → IsLive a b d s → (d ≢ disk) ⊎ (s ≢ sector) → Keeps (a.held d s) (b.held d s)
  pub synced : OnOk result ((s : ℕ) → IsLive a b disk s → IsSingle (b.held disk s))
  pub durable : OnOk result (IsLive a b disk sector → (v : List ℕ) → MayLeave (b.held disk sector) v → v ≡ value)
