-- What may stand on the slices when a stop comes, and which places count there.
use Rattle.std.specs.Prelude.{◌≡◌, ◌⊎◌, ℕ, ◌-◌, ◌<◌, ◌≤◌, ◌^◌, true, List, [], Some, None}
use Rattle.rack.specs.Values.{MayLeave}
use Rattle.rack.specs.Seen.{Image, RackView, IsLive}
use Rattle.rack.specs.Targets.{Target, look}
use Rattle.pool_state.specs.declared.contents.State.{State}
use Rattle.array_image.specs.Places.{slice_of, log_slice}
use Rattle.array_image.specs.Record.{Gate, GateAt, gate_sector, gate_of, pending_at}
use Rattle.array_image.specs.States.{state_in, is_current}
pub use Rattle.array_image.specs.Left.{deciding, IsWhole}
use Rattle.array_image.specs.Left.{LogsInside, PicksLogs}
use Rattle.log_laws.specs.View.{LogView, names, is_left}

-- a gate, a half or the zeros between: what the log alone writes
abbrev pub IsLogPart : ℕ → ℕ → Type 0
IsLogPart d t = (slice_of d ≡ 0) × (0 < t)

-- contents that are the same but for these
abbrev pub IsAlike : Image → Image → Type 0
IsAlike c e = (d t : ℕ) → (IsLogPart d t → ⊥) → c d t ≡ e d t

-- log slices have nothing where there is no sector
abbrev pub IsInside : (ℕ → ℕ) → Image → Type 0
IsInside sectors c = LogsInside sectors c

-- log slices as a stop now may leave them, whatever stands elsewhere
abbrev pub LogsStand : RackView → Image → Type 0
LogsStand x c = PicksLogs x c

-- the copies of the state as a stop in a commit may leave them: as before, or as the targets have them, each by itself
pub record StatesStand (xs : List Target) (x : RackView) (c : Image) : Type 0 where
  pub picks :
      (p : ℕ) → IsLive x x (log_slice p) 0
      → MayLeave (x.held (log_slice p) 0) (c (log_slice p) 0) ⊎ (look xs (log_slice p) 0 ≡ Some (c (log_slice p) 0))
  pub inside : (p : ℕ) → x.sectors (log_slice p) ≡ 0 → c (log_slice p) 0 ≡ []

-- a place is one of them
abbrev pub Decides : Image → ℕ → Type 0
Decides c p = (s : State) × (state_in c ≡ Some s) × (is_current s p ≡ true)

-- a stop now leaves a well-formed gate on a place, and none has a greater number
abbrev pub IsNumbered : ℕ → RackView → ℕ → Type 0
IsNumbered number x p =
    (v : List ℕ) → MayLeave (x.held (log_slice p) gate_sector) v → (g : Gate) × (gate_of v ≡ Some g) × (g.number ≤ number)

-- What the clauses on stops need of the slices before a commit on the places of `on`.
pub record IsReady (l : LogView) (on : List ℕ) (x : RackView) : Type 0 where
  pub room : l.number < 2 ^ 63 - 1
  -- the log slices and the targets are told
  pub lasting : x.lasting
  pub logs : (p t : ℕ) → p < 16 → t < x.sectors (log_slice p) → IsLive x x (log_slice p) t
  pub targets : (d t : ℕ) (v : List ℕ) → look l.added d t ≡ Some v → IsLive x x d t
  -- whoever may decide when a stop comes, one that went earlier too, has a gate of a number up to the log's
  pub numbers :
      (c : Image) → StatesStand l.added x c → (p : ℕ) → Decides c p → gate_sector < x.sectors (log_slice p) → IsNumbered l.number x p
  -- a record that a stop now leaves pending on a place that is written has the log's number: the commit writes the other half
  pub halves :
      (c : Image) → LogsStand x c → (a : GateAt) → pending_at (deciding c) c ≡ Some a → names on a.place ≡ true → a.gate.number ≡ l.number

-- whatever states stand when a stop comes, one of the places that are left decides
abbrev pub SomeoneDecides : List Target → (on lost : List ℕ) → RackView → Type 0
SomeoneDecides xs on lost x = (c : Image) → StatesStand xs x c → (p : ℕ) × (is_left on lost p ≡ true) × Decides c p
