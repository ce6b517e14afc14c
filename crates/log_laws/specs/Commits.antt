-- What a commit does. Its clauses speak of replayed contents alone; gates and halves are its own.
use Rattle.std.specs.Prelude.{◌≡◌, ◌≢◌, ◌⊎◌, ℕ, ◌+◌, ◌<◌, ◌≤◌, true, false, ◌==◌, List, [], Some, None}
use Rattle.std.specs.List.{list_any}
use Rattle.rack.specs.Values.{MayLeave, Keeps}
use Rattle.rack.specs.Seen.{Image, RackView, IsLive, SameRack, Rose}
use Rattle.rack.specs.Moments.{Leaves}
use Rattle.rack.specs.Targets.{Target, look, put}
use Rattle.array_image.specs.Places.{log_slice, place_of}
use Rattle.array_image.specs.Record.{GateAt, gate_sector, gate_of, half_of, pending_at, pending}
use Rattle.array_image.specs.Arrays.{replayed}
use Rattle.log_laws.specs.View.{LogView, next_number, names, in_order}
use Rattle.log_laws.specs.Standing.{IsLogPart, IsAlike, IsInside, StatesStand, deciding, IsWhole, LogsStand, IsNumbered, IsReady, SomeoneDecides}

-- contents that a stop now may leave
pub record Stands (x : RackView) (c : Image) : Type 0 where
  pub picks : (d t : ℕ) → IsLive x x d t → MayLeave (x.held d t) (c d t)
  pub inside : IsInside x.sectors c

-- All or nothing: replayed, contents are as some that a stop before the commit might leave, replayed too, or they are those
-- contents with each target written. In the second case those are taken as they are, and not replayed: a record that was pending
-- on a place that went earlier is dropped when the next gates open.
pub record ImageInCommit (xs : List Target) (a : RackView) (c : Image) : Type 0 where
  pub before : Image
  pub stands : Stands a before
  pub either :
      IsAlike (replayed a.sectors c) (replayed a.sectors before) ⊎ IsAlike (replayed a.sectors c) (put a.sectors xs before)
  -- nor is a log damaged by it
  pub whole : IsWhole before → IsWhole c

-- all
pub record ImageAfterCommit (xs : List Target) (a : RackView) (c : Image) : Type 0 where
  pub before : Image
  pub stands : Stands a before
  pub all : IsAlike (replayed a.sectors c) (put a.sectors xs before)
  pub whole : IsWhole c

-- each target has its payload in contents
abbrev pub IsWritten : List Target → Image → Type 0
IsWritten xs c = (d t : ℕ) (w : List ℕ) → look xs d t ≡ Some w → c d t ≡ w

-- as it was: the copies are those of contents that a stop before the commit might leave, and what is pending there is so
pub record IsPendingYet (a : RackView) (c : Image) : Type 0 where
  pub before : Image
  pub stands : Stands a before
  pub copies : (p : ℕ) → c (log_slice p) 0 ≡ before (log_slice p) 0
  pub same : pending (deciding c) c ≡ pending (deciding before) before

-- the targets, read from a place of the commit
pub record IsPendingNow (l : LogView) (on : List ℕ) (c : Image) : Type 0 where
  pub all : pending (deciding c) c ≡ l.added
  pub source : (g : GateAt) → pending_at (deciding c) c ≡ Some g → (names on g.place ≡ true) × (g.gate.number ≡ next_number l.number)

-- What a stop in a commit leaves of the log slices as they stand: copies of states as they were or as the targets have them, gates that
-- aren't the commit's as they were. What was pending is so yet, or all targets are, or none is and all are written.
pub record StandsMidway (l : LogView) (on : List ℕ) (a : RackView) (c : Image) : Type 0 where
  pub states : StatesStand l.added a c
  pub gates :
      (p : ℕ) → names on p ≡ false → IsLive a a (log_slice p) gate_sector
      → MayLeave (a.held (log_slice p) gate_sector) (c (log_slice p) gate_sector)
  pub inside : IsInside a.sectors c
  pub pends : IsPendingYet a c ⊎ (IsPendingNow l on c ⊎ ((pending (deciding c) c ≡ []) × IsWritten l.added c))

-- what log slices leave pending after a commit: its own targets at most, and these only where somebody went
pub record Rests (number : ℕ) (xs : List Target) (lost : List ℕ) (c : Image) : Type 0 where
  pub numbers : (a : GateAt) → pending_at (deciding c) c ≡ Some a → a.gate.number ≡ number
  pub targets : (pending (deciding c) c ≡ []) ⊎ ((lost ≢ []) × (pending (deciding c) c ≡ xs))

-- a disk of a place
abbrev pub IsOfPlace : ℕ → ℕ → Type 0
IsOfPlace p d = place_of d ≡ p

-- the places that went, each once: one has a disk whose faults rose, and is of `on` or has a target
pub record HasGone (xs : List Target) (on lost : List ℕ) (a b : RackView) : Type 0 where
  pub ordered : lost ≡ in_order lost
  pub cause : (p : ℕ) → names lost p ≡ true → (d : ℕ) × IsOfPlace p d × Rose (a.faults d) (b.faults d)
  pub called : (p : ℕ) → names lost p ≡ true → (names on p ≡ true) ⊎ (list_any (λ t. place_of t.disk == p) xs ≡ true)

-- a sector outside the half of a number
abbrev pub IsOutside : ℕ → ℕ → Type 0
IsOutside number t = (t < half_of number) ⊎ (half_of number + 4092 ≤ t)

-- The whole of it, where `lost` are the places whose disk answered `Gone` in it. What is said of a place holds where it isn't
-- among them.
pub record CommitCall (l : LogView) (on lost : List ℕ) (a b : RackView) : Type 0 where
  pub stays : SameRack a b
  pub gone : HasGone l.added on lost a b
  -- whatever holds, time goes on and the past stays
  pub leaves : a.traced → Leaves a b (λ c. Unit {0})
  -- all or nothing at each moment
  pub stops :
      a.traced → IsReady l on a → SomeoneDecides l.added on lost a
      → Leaves a b (λ c. IsInside a.sectors c → ImageInCommit l.added a c)
  -- what the log slices say meanwhile, as they stand
  pub midway :
      a.traced → IsReady l on a → SomeoneDecides l.added on lost a
      → Leaves a b (λ c. IsInside a.sectors c → StandsMidway l on a c)
  -- all at the return
  pub after : IsReady l on a → SomeoneDecides l.added on lost a → (c : Image) → Stands b c → ImageAfterCommit l.added a c
  -- what the next commit needs
  pub rests :
      IsReady l on a → SomeoneDecides l.added on lost a
      → (c : Image) → LogsStand b c → Rests (next_number l.number) l.added lost c
  pub numbers :
      (p : ℕ) → IsLive a b (log_slice p) gate_sector → IsNumbered l.number a p → IsNumbered (next_number l.number) b p
  -- where nobody went each gate of `on` is closed with the next number, durably
  pub gates :
      lost ≡ [] → (p : ℕ) (v : List ℕ) → names on p ≡ true → IsLive a b (log_slice p) gate_sector
      → MayLeave (b.held (log_slice p) gate_sector) v
      → gate_of v ≡ Some (record { is_open = false; number = next_number l.number })
  -- sectors but for gates, halves and targets are as they were
  pub apart : (d t : ℕ) → IsLive a b d t → (IsLogPart d t → ⊥) → look l.added d t ≡ None → Keeps (a.held d t) (b.held d t)
  -- of the log's own it writes gates and the half of its number, on the places of `on` alone
  pub around :
      (p t : ℕ) → IsLive a b (log_slice p) t → 0 < t
      → (names on p ≡ false) ⊎ ((t ≢ gate_sector) × IsOutside (next_number l.number) t)
      → Keeps (a.held (log_slice p) t) (b.held (log_slice p) t)
  -- a target's sector has the values that it had, or its payload; on whoever is left the payload alone
  pub within :
      (d t : ℕ) (v : List ℕ) → IsLive a b d t → (IsLogPart d t → ⊥) → MayLeave (b.held d t) v
      → MayLeave (a.held d t) v ⊎ (look l.added d t ≡ Some v)
  pub written :
      (d t : ℕ) (w v : List ℕ) → IsLive a b d t → names lost (place_of d) ≡ false → look l.added d t ≡ Some w
      → MayLeave (b.held d t) v → v ≡ w
