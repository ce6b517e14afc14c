-- What contents of log slices say, as they stand and once the pending record is replayed.
use Rattle.std.specs.Prelude.{◌≡◌, ◌≢◌, ◌⊎◌, ℕ, ◌<◌, true, false, List, Ok, Some}
use Rattle.rack.specs.Seen.{Image, RackView}
use Rattle.rack.specs.Targets.{Target, look}
use Rattle.pool_state.specs.declared.contents.Copied.{Copied}
use Rattle.pool_state.specs.declared.contents.State.{State}
use Rattle.pool_state.specs.Sector.{decoded}
use Rattle.array_image.specs.Left.{TargetsInside}
use Rattle.array_image.specs.Places.{log_slice}
use Rattle.array_image.specs.Record.{Gate, GateAt, gate_in, pending_at, pending}
use Rattle.array_image.specs.States.{state_in, is_current, current_places, id_of}
use Rattle.array_image.specs.Arrays.{replayed}
use Rattle.log_laws.specs.Standing.{LogsStand, deciding, IsWhole}
use Rattle.log_laws.specs.Commits.{Stands}
use Rattle.log_laws.specs.Kept.{IsCopyOf, IsNoLater}
use Rattle.log_laws.specs.View.{names}

-- The copies of a state in contents of slices of so many sectors: each current place that has a log slice has its copy of this state,
-- no place has a later one or another one of its epoch, and one that isn't current has an earlier one at most.
pub record CopiesIn (s : State) (sectors : ℕ → ℕ) (c : Image) : Type 0 where
  pub own : (p : ℕ) → is_current s p ≡ true → 0 < sectors (log_slice p) → IsCopyOf s p (c (log_slice p) 0)
  pub others : (p : ℕ) (copy : Copied) → p < 16 → decoded (c (log_slice p) 0) ≡ Ok copy → IsNoLater s copy
  pub earlier :
      (p : ℕ) (copy : Copied) → p < 16 → is_current s p ≡ false → decoded (c (log_slice p) 0) ≡ Ok copy → copy.state.epoch < s.epoch

-- A place stays from a state to the next one: it is current by both, with the same drive.
pub record PlaceStays (s t : State) (p : ℕ) : Type 0 where
  pub was : is_current s p ≡ true
  pub now : is_current t p ≡ true
  pub drive : id_of t p ≡ id_of s p

-- A place joins: it is current by the next state, and wasn't so by the one before, or had another drive.
pub record PlaceJoins (s t : State) (p : ℕ) : Type 0 where
  pub now : is_current t p ≡ true
  pub new : (is_current s p ≡ false) ⊎ (id_of t p ≢ id_of s p)

-- states of one pool, by both of which each of these places has the same drive
pub record KeepsDrives (s t : State) (on : List ℕ) : Type 0 where
  pub pool : t.pool ≡ s.pool
  pub ids : (p : ℕ) → names on p ≡ true → id_of t p ≡ id_of s p

-- The record that is pending in contents of the state s brings a later state of the same pool: it is read from a place that stays and has a copy
-- for it, and each place that joins has a gate of a lower number. One place that stays has its copy of s yet.
pub record PendingInstalls (s t : State) (c : Image) : Type 0 where
  pub later : s.epoch < t.epoch
  pub pool : t.pool ≡ s.pool
  pub source :
      (g : GateAt) → pending_at (current_places s) c ≡ Some g
      → PlaceStays s t g.place × ((u : List ℕ) × (look (pending (current_places s) c) (log_slice g.place) 0 ≡ Some u))
  pub joining :
      (g : GateAt) (p : ℕ) → pending_at (current_places s) c ≡ Some g → PlaceJoins s t p
      → (h : Gate) × (gate_in c p ≡ Some h) × (h.number < g.gate.number)
  pub copy : (p : ℕ) × PlaceStays s t p × IsCopyOf s p (c (log_slice p) 0)

-- targets have copies of this state alone, each its place's own
abbrev pub AreOwnCopies : State → List Target → Type 0
AreOwnCopies s xs = (p : ℕ) (u : List ℕ) → look xs (log_slice p) 0 ≡ Some u → decoded u ≡ Ok (record { state = s; own = p })

-- Contents that say the state t once the pending record is replayed. No log is damaged. As they stand they say a state of which no place has
-- a later copy: t, or one that the record brings t to. What is pending is for sectors that slices have.
pub record RecoversTo (t : State) (sectors : ℕ → ℕ) (c : Image) : Type 0 where
  pub whole : IsWhole c
  pub is_state : state_in (replayed sectors c) ≡ Some t
  pub copies : CopiesIn t sectors (replayed sectors c)
  pub stood : State
  pub stood_is : state_in c ≡ Some stood
  pub latest : (p : ℕ) (copy : Copied) → p < 16 → decoded (c (log_slice p) 0) ≡ Ok copy → IsNoLater stood copy
  pub next : (t ≡ stood) ⊎ PendingInstalls stood t c
  pub brings : AreOwnCopies t (pending (deciding c) c)
  pub inside : TargetsInside sectors c

-- The record that is pending in contents of the state s brings a later state of the same pool, which gives a place another drive though it was current: all
-- other places that are current by both keep theirs. The record isn't read from the place, whose gate has a lower number, as has that of each place that joins.
-- One of the others has its copy of s yet.
pub record IsReplaced (place : ℕ) (s t : State) (c : Image) : Type 0 where
  pub later : s.epoch < t.epoch
  pub pool : t.pool ≡ s.pool
  pub ids : (p : ℕ) → p ≢ place → is_current s p ≡ true → is_current t p ≡ true → id_of t p ≡ id_of s p
  pub source :
      (g : GateAt) → pending_at (current_places s) c ≡ Some g
      → (g.place ≢ place) × (is_current t g.place ≡ true) × ((u : List ℕ) × (look (pending (current_places s) c) (log_slice g.place) 0 ≡ Some u))
  pub gate : (g : GateAt) → pending_at (current_places s) c ≡ Some g → (h : Gate) × (gate_in c place ≡ Some h) × (h.number < g.gate.number)
  pub joining :
      (g : GateAt) (p : ℕ) → pending_at (current_places s) c ≡ Some g → is_current s p ≡ false → is_current t p ≡ true
      → (h : Gate) × (gate_in c p ≡ Some h) × (h.number < g.gate.number)
  pub copy : (p : ℕ) × (p ≢ place) × (is_current s p ≡ true) × (is_current t p ≡ true) × IsCopyOf s p (c (log_slice p) 0)

-- Contents in which such a record is pending: as they stand they say the state s, and t once it is replayed.
pub record SaysReplaced (place : ℕ) (s t : State) (sectors : ℕ → ℕ) (c : Image) : Type 0 where
  pub whole : IsWhole c
  pub is_state : state_in (replayed sectors c) ≡ Some t
  pub copies : CopiesIn t sectors (replayed sectors c)
  pub stood_is : state_in c ≡ Some s
  pub latest : (p : ℕ) (copy : Copied) → p < 16 → decoded (c (log_slice p) 0) ≡ Ok copy → IsNoLater s copy
  pub next : IsReplaced place s t c
  pub brings : AreOwnCopies t (pending (deciding c) c)
  pub inside : TargetsInside sectors c

-- Whatever a stop leaves has the copies of a state once it is replayed, and nothing but such copies is pending for their sectors, and nothing for a
-- sector that no slice has.
pub record HoldsCopies (s : State) (x : RackView) : Type 0 where
  pub copies : (c : Image) → Stands x c → CopiesIn s x.sectors (replayed x.sectors c)
  pub brings : (c : Image) → LogsStand x c → AreOwnCopies s (pending (deciding c) c)
  pub inside : (c : Image) → LogsStand x c → TargetsInside x.sectors c
