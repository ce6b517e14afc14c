-- The gates as they were read, and the record that is pending by them.
use Rattle.std.specs.Prelude.{◌≡◌, ◌≢◌, ◌⊎◌, ℕ, zero, suc, ◌+◌, ◌<◌, ◌≤◌, Bool, true, false, ◌==◌, ◌||◌, if◌then◌else◌, List, [], map, slice_get, Option, Some, None, option_map, is_none}
use Rattle.std.specs.Option.{option_and_then, option_map_or}
use Rattle.std.specs.List.{list_all, range_with_len}
use Rattle.rack.specs.Seen.{RackView, Rose}
use Rattle.rack.specs.Sequences.{OnlyReads}
use Rattle.rack.specs.Targets.{Target}
use Rattle.array_image.specs.Foremost.{foremost}
use Rattle.array_image.specs.Places.{log_slice}
use Rattle.array_image.specs.Record.{Gate, GateAt, gate_sector, gate_in, is_bad_gate, is_open_if_of, record_of}
use Rattle.array_image.specs.Held.{current_in}
use Rattle.commit_log.specs.declared.gates.Gate as read
use Rattle.commit_log.specs.declared.scan.PlacedGate as placed
use Rattle.commit_log.specs.declared.scan.Scan.{Scan}
use Rattle.log_laws.specs.View.{names}
use Rattle.log_laws.specs.Phases.{went}

-- ---- gates

abbrev pub gate_is : read.Gate → Gate
gate_is g = record { is_open = g.open; number = g.number }

abbrev pub at_is : placed.PlacedGate → GateAt
at_is a = record { place = a.place; gate = gate_is a.gate }

-- the gate of a place, if one was read and is well formed
abbrev pub gate_seen : List (Option read.Gate) → ℕ → Option Gate
gate_seen gates p = option_and_then (λ o. option_map gate_is o) (slice_get gates p)

abbrev pub at_seen : List (Option read.Gate) → ℕ → Option GateAt
at_seen gates p = option_map (λ g. record { place = p; gate = g }) (gate_seen gates p)

-- those of all places
abbrev pub all_seen : List (Option read.Gate) → List (Option GateAt)
all_seen gates = map (at_seen gates) (range_with_len 0 16)

abbrev pub number_of : GateAt → ℕ
number_of a = a.gate.number

-- of those of greatest number the one of the lowest place
abbrev pub decisive_seen : List (Option read.Gate) → Option GateAt
decisive_seen gates = foremost number_of (all_seen gates)

-- the place and the number of the record that is pending by them
unfoldable pub pending_seen : List (Option read.Gate) → Option GateAt
pending_seen gates =
    option_and_then (λ a. if list_all (is_open_if_of a.gate.number) (all_seen gates) then Some a else None) (decisive_seen gates)

-- an open gate
abbrev pub is_open_gate : Option GateAt → Bool
is_open_gate o = option_map_or (λ a. a.gate.is_open) o false

abbrev pub one_if : Option Gate → ℕ
one_if None = 0
one_if (Some g) = 1

-- how many of the first places have a gate
unfoldable pub count_seen : (ℕ → Option Gate) → ℕ → ℕ
count_seen h zero = 0
count_seen h (suc n) = one_if (h n) + count_seen h n

-- ---- what was read

-- the sectors of a slice that can be read
abbrev pub Agrees : RackView → ℕ → (ℕ → List ℕ) → Type 0
Agrees x d slice = (t : ℕ) → t < x.sectors d → x.spent d t ≡ false → slice t ≡ (x.held d t).current

-- the gate of a place was read: it is well formed, or not, or the place went
pub record IsFound (place : ℕ) (a b : RackView) (s t : Scan) : Type 0 where
  pub gates : (p : ℕ) → p ≢ place → gate_seen t.gates p ≡ gate_seen s.gates p
  pub damaged : (p : ℕ) → p ≢ place → went t.damaged.places p ≡ went s.damaged.places p
  pub lost : (p : ℕ) → p ≢ place → went t.lost.places p ≡ went s.lost.places p
  pub gone :
      went t.lost.places place ≡ true
      → (gate_seen t.gates place ≡ None) × (went t.damaged.places place ≡ false) × Rose (a.faults (log_slice place)) (b.faults (log_slice place))
  pub apart : (g : Gate) → gate_seen t.gates place ≡ Some g → went t.damaged.places place ≡ false
  pub either : went t.lost.places place ≡ false → went t.damaged.places place ≡ is_none (gate_seen t.gates place)
  pub here :
      went t.lost.places place ≡ false → a.told (log_slice place)
      → (a.spent (log_slice place) gate_sector ≡ false) × (gate_seen t.gates place ≡ gate_in (current_in a.held) place)
      × (went t.damaged.places place ≡ is_bad_gate (current_in a.held) place)

-- the gates of those of `on` below a number were read
pub record IsScan (on : List ℕ) (many : ℕ) (a b : RackView) (s : Scan) : Type 0 where
  pub reads : OnlyReads a b
  pub cause : (p : ℕ) → went s.lost.places p ≡ true → (names on p ≡ true) × Rose (a.faults (log_slice p)) (b.faults (log_slice p))
  pub later : (p : ℕ) → many ≤ p → went s.lost.places p ≡ false
  pub out :
      (p : ℕ) → (went s.lost.places p ≡ true) ⊎ ((names on p ≡ false) ⊎ (many ≤ p))
      → (gate_seen s.gates p ≡ None) × (went s.damaged.places p ≡ false)
  pub apart : (p : ℕ) (g : Gate) → gate_seen s.gates p ≡ Some g → went s.damaged.places p ≡ false
  pub each :
      (p : ℕ) → p < many → names on p ≡ true → went s.lost.places p ≡ false → a.told (log_slice p)
      → (gate_seen s.gates p ≡ gate_in (current_in a.held) p) × (went s.damaged.places p ≡ is_bad_gate (current_in a.held) p)
  pub either :
      (p : ℕ) → p < many → names on p ≡ true → went s.lost.places p ≡ false → went s.damaged.places p ≡ is_none (gate_seen s.gates p)

-- ---- what was loaded

-- a place went whose gate had been read
pub record IsDropped (a b : RackView) (s t : Scan) (p : ℕ) : Type 0 where
  pub gate : Gate
  pub had : gate_seen s.gates p ≡ Some gate
  pub none : gate_seen t.gates p ≡ None
  pub lost : went t.lost.places p ≡ true
  pub rose : Rose (a.faults (log_slice p)) (b.faults (log_slice p))

-- some places went, nothing else changed
pub record Drops (a b : RackView) (s t : Scan) : Type 0 where
  pub reads : OnlyReads a b
  pub damaged : t.damaged ≡ s.damaged
  pub each :
      (p : ℕ)
      → ((went t.lost.places p ≡ went s.lost.places p) × (gate_seen t.gates p ≡ gate_seen s.gates p)) ⊎ IsDropped a b s t p

-- the targets of the record that is pending by the gates; none where none is, or where it isn't well formed on its place
pub record Loads (x : RackView) (gates : List (Option read.Gate)) (broken : Option ℕ) (xs : List Target) : Type 0 where
  pub none : pending_seen gates ≡ None → (xs ≡ []) × (broken ≡ None)
  pub some : (a : GateAt) → pending_seen gates ≡ Some a → (broken ≡ None) ⊎ ((broken ≡ Some a.place) × (xs ≡ []))
  pub loaded :
      (a : GateAt) → pending_seen gates ≡ Some a → x.told (log_slice a.place) → (slice : ℕ → List ℕ) → Agrees x (log_slice a.place) slice
      → record_of a.gate.number slice ≡ (if is_none broken then Some xs else None)

-- the gate of a place isn't well formed, or the record isn't that was read from it
abbrev pub is_damaged : Option ℕ → Scan → ℕ → Bool
is_damaged broken s p = option_map_or (λ q. p == q) broken false || went s.damaged.places p
