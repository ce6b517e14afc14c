-- What looking for a pending record and replaying it do.
use Rattle.std.specs.Prelude.{◌≡◌, ◌≢◌, ◌⊎◌, ℕ, ◌<◌, ◌≤◌, Bool, true, false, List, [], Option, Some, None, is_some, is_none}
use Rattle.rack.specs.Values.{IsSector, IsSingle, MayLeave, Keeps}
use Rattle.rack.specs.Seen.{Image, RackView, IsLive, SameRack, Rose}
use Rattle.rack.specs.Moments.{Leaves}
use Rattle.rack.specs.Calls.{KeepsAll}
use Rattle.rack.specs.Sequences.{OnlyReads, IsPayload}
use Rattle.rack.specs.Targets.{Target, look}
use Rattle.array_image.specs.Places.{log_slice, place_of}
use Rattle.array_image.specs.Record.{Gate, GateAt, gate_sector, gate_of, gate_in, is_bad_gate, pending_at, pending, damaged_log}
use Rattle.array_image.specs.Arrays.{replayed}
use Rattle.array_image.specs.Left.{reading}
use Rattle.log_laws.specs.View.{LogView, names, left_of, in_order}
use Rattle.log_laws.specs.Standing.{IsLogPart, IsAlike, IsInside, StatesStand, LogsStand, Decides, deciding, IsWhole, IsNumbered, SomeoneDecides}
use Rattle.log_laws.specs.Commits.{Stands, HasGone, Rests}
use Rattle.log_laws.specs.Phases.{IsClosing}

-- What the log finds in contents, on the places of `on` that are left. All of it goes by these contents, but for the number and
-- the openness where a place went whose gate had been read.
pub record Finds (m : LogView) (on places : List ℕ) (is_pending : Bool) (damaged : Option ℕ) (c : Image) : Type 0 where
  pub damaged_is : damaged ≡ damaged_log places c
  pub is_pending_is : is_pending ≡ is_some (pending_at places c)
  pub targets : m.pending ≡ pending places c
  -- each has a gate, well formed or not
  pub each : (p : ℕ) → names places p ≡ true → is_bad_gate c p ≡ is_none (gate_in c p)
  -- the number is the greatest of their gates, or that of a place whose gate was read and which went later
  pub above : (p : ℕ) (g : Gate) → names places p ≡ true → gate_in c p ≡ Some g → g.number ≤ m.number
  pub number : (m.number ≡ 0) ⊎ ((p : ℕ) × (g : Gate) × (names on p ≡ true) × (gate_in c p ≡ Some g) × (g.number ≡ m.number))
  -- so is the openness
  pub open_is : (p : ℕ) (g : Gate) → names places p ≡ true → gate_in c p ≡ Some g → g.is_open ≡ true → m.is_open ≡ true
  pub opened : m.is_open ≡ true → (p : ℕ) × (g : Gate) × (names on p ≡ true) × (gate_in c p ≡ Some g) × (g.is_open ≡ true)

-- Looking for the pending record: `gone` are the places whose disk answered `Gone` in it; they are passed over.
pub record PendingCall (l m : LogView) (on gone : List ℕ) (is_pending : Bool) (damaged : Option ℕ) (a b : RackView) : Type 0 where
  pub reads : OnlyReads a b
  pub ordered : gone ≡ in_order gone
  pub cause : (p : ℕ) → names gone p ≡ true → (names on p ≡ true) × Rose (a.faults (log_slice p)) (b.faults (log_slice p))
  pub added : m.added ≡ l.added
  pub lent : m.is_lent ≡ true
  pub finds :
      ((p : ℕ) → names on p ≡ true → a.told (log_slice p))
      → Finds m on (left_of on gone) is_pending damaged (reading a)

-- slices as a stop in a replay may leave them: gates and halves as before, and each copy of the state too or as a target has it
pub record StandsAmid (xs : List Target) (x : RackView) (c : Image) : Type 0 where
  pub states : StatesStand xs x c
  pub parts : (p t : ℕ) → 0 < t → IsLive x x (log_slice p) t → MayLeave (x.held (log_slice p) t) (c (log_slice p) t)
  pub inside : IsInside x.sectors c

-- all targets are written that the rack has, halves of logs are as before, and the record is pending yet, or nothing is
pub record AreWritten (xs : List Target) (x : RackView) (c : Image) : Type 0 where
  pub all : (d t : ℕ) (w : List ℕ) → look xs d t ≡ Some w → t < x.sectors d → c d t ≡ w
  pub halves : (p t : ℕ) → gate_sector < t → IsLive x x (log_slice p) t → MayLeave (x.held (log_slice p) t) (c (log_slice p) t)
  pub pends : (pending (deciding c) c ≡ xs) ⊎ (pending (deciding c) c ≡ [])

-- Contents as they stand when a stop comes in a replay: as a stop leaves them while targets are written, or with all of them written.
abbrev pub StandsReplaying : List Target → RackView → Image → Type 0
StandsReplaying xs x c = StandsAmid xs x c ⊎ AreWritten xs x c

-- What the clauses on stops need of the slices before a replay: whatever copies of the state a stop in it leaves, the log's
-- pending record is the one that these contents have, none where it has none, it is well formed as all gates are that decide, and
-- none of these has a greater number.
pub record CanReplay (l : LogView) (x : RackView) : Type 0 where
  pub lasting : x.lasting
  pub logs : (p t : ℕ) → p < 16 → t < x.sectors (log_slice p) → IsLive x x (log_slice p) t
  pub targets : (d t : ℕ) (v : List ℕ) → look l.pending d t ≡ Some v → t < x.sectors d → IsLive x x d t
  pub numbers :
      (c : Image) → StatesStand l.pending x c → (p : ℕ) → Decides c p → gate_sector < x.sectors (log_slice p) → IsNumbered l.number x p
  pub same : (c : Image) → StandsAmid l.pending x c → pending (deciding c) c ≡ l.pending
  pub whole : (c : Image) → StandsAmid l.pending x c → IsWhole c
  pub number : (c : Image) → StandsAmid l.pending x c → (g : GateAt) → pending_at (deciding c) c ≡ Some g → g.gate.number ≡ l.number

-- replayed, contents are as some that a stop before the call might leave, replayed too, and no log is damaged
pub record Replays (a : RackView) (c : Image) : Type 0 where
  pub before : Image
  pub stands : Stands a before
  pub same : IsAlike (replayed a.sectors c) (replayed a.sectors before)
  pub whole : IsWhole c

-- the log has something to write: a record is pending, or a gate that it read is open
abbrev pub HasWork : LogView → Type 0
HasWork l = (l.pending ≢ []) ⊎ (l.is_open ≡ true)

-- gates are closed where it has, and no place has gone before
abbrev pub IsShut : LogView → (ℕ → Bool) → List ℕ → List ℕ → ℕ → ℕ → List ℕ → Type 0
IsShut l went on block d s v = HasWork l × IsClosing went on block d s v

-- the gate of a place of `on`, which is closed where the log has work
pub record IsShutting (l : LogView) (on : List ℕ) (d t : ℕ) : Type 0 where
  pub work : HasWork l
  pub named : names on (place_of d) ≡ true
  pub slice : d ≡ log_slice (place_of d)
  pub gate : t ≡ gate_sector

-- The whole of a replay, where `lost` are the places whose disk answered `Gone` in it.
pub record ReplayCall (l : LogView) (on lost : List ℕ) (a b : RackView) : Type 0 where
  pub stays : SameRack a b
  pub gone : HasGone l.pending on lost a b
  -- whatever holds, time goes on and the past stays
  pub leaves : a.traced → Leaves a b (λ c. Unit {0})
  -- replayed, contents are what they were, at each moment and at the return: so doing it again gives the same
  pub stops : a.traced → CanReplay l a → Leaves a b (λ c. IsInside a.sectors c → Replays a c)
  pub after : CanReplay l a → (c : Image) → Stands b c → Replays a c
  -- what the log slices say meanwhile, as they stand
  pub midway : a.traced → CanReplay l a → Leaves a b (λ c. IsInside a.sectors c → StandsReplaying l.pending a c)
  -- where nobody went nothing is pending any more, and contents are as they are replayed
  pub rests : CanReplay l a → SomeoneDecides l.pending on lost a → (c : Image) → LogsStand b c → Rests l.number l.pending lost c
  -- and each gate of `on` is closed with the log's number, durably
  pub gates :
      HasWork l → lost ≡ [] → (p : ℕ) (v : List ℕ) → names on p ≡ true → IsLive a b (log_slice p) gate_sector
      → MayLeave (b.held (log_slice p) gate_sector) v
      → gate_of v ≡ Some (record { is_open = false; number = l.number })
  -- which is one sector
  pub durable :
      HasWork l → lost ≡ [] → (p : ℕ) → names on p ≡ true → IsLive a b (log_slice p) gate_sector
      → IsSingle (b.held (log_slice p) gate_sector) × IsSector (b.held (log_slice p) gate_sector).current
  pub numbers :
      CanReplay l a → (p : ℕ) → IsLive a b (log_slice p) gate_sector → IsNumbered l.number a p → IsNumbered l.number b p
  -- without work nothing is written
  pub idle : (HasWork l → ⊥) → KeepsAll a b
  -- sectors but for targets, and the gates that are closed, are as they were
  pub apart : (d t : ℕ) → IsLive a b d t → (IsShutting l on d t → ⊥) → look l.pending d t ≡ None → Keeps (a.held d t) (b.held d t)
  -- a target's sector has the values that it had, or a payload; on whoever is left the last payload alone
  pub within :
      (d t : ℕ) (v : List ℕ) → IsLive a b d t → (IsLogPart d t → ⊥) → MayLeave (b.held d t) v
      → MayLeave (a.held d t) v ⊎ IsPayload l.pending d t v
  pub written :
      (d t : ℕ) (w v : List ℕ) → IsLive a b d t → (IsLogPart d t → ⊥) → names lost (place_of d) ≡ false → look l.pending d t ≡ Some w
      → MayLeave (b.held d t) v → v ≡ w
