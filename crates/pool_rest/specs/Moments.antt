-- What a stop inside a replay leaves, as it stands on the disks, and by slices of the drives once it is replayed.
use Rattle.std.specs.Prelude.{◌≡◌, ◌≢◌, ◌⊎◌, ℕ, ◌<◌, ◌≤◌, List, [], Option, Some, None, Ok}
use Rattle.std.specs.List.{filter_map}
use Rattle.rack.specs.Seen.{Image, RackView, IsPick}
use Rattle.rack.specs.Moments.{Leaves}
use Rattle.rack.specs.Targets.{Target, look}
use Rattle.gpt_table.specs.Changes.{the_table}
use Rattle.slice_rack.specs.Slices.{IsOrderly, Slices, seat_of, sectors_of}
use Rattle.slice_rack.specs.Sliced.{IsInside, sliced}
use Rattle.pool_state.specs.declared.contents.State.{State}
use Rattle.pool_state.specs.Sector.{decoded}
use Rattle.array_image.specs.Arrays.{replayed}
use Rattle.array_image.specs.Record.{Gate, GateAt, damaged_log, gate_of, pending, pending_at}
use Rattle.array_image.specs.States.{current_places}
use Rattle.array_image.specs.Places.{arrays_first, log_slice, place_of, slice_of, state_sector}
use Rattle.pool_image.specs.Alike.{drive_gate}
use Rattle.pool_image.specs.Disks.{Disks, disks_of, identities_of, seat_of as drive_of}
use Rattle.pool_image.specs.Replay.{Standing, extent_by, landed, logs_of, standing}
use Rattle.log_laws.specs.Saying.{PlaceJoins, PlaceStays}
use Rattle.log_laws.specs.Standing.{IsAlike}
use Rattle.log_laws.specs.View.{LogView, left_of}
use Rattle.pool_scan.specs.declared.Known.{Known}
use Rattle.pool_scan.specs.Choosing.{seat_by}
use Rattle.pool_scan.specs.Scanning.{now_in}
use Rattle.pool_rest.specs.Members.{Lies}
use Rattle.pool_rest.specs.Resting.{seated_state}

-- no target of the pending record is a state's sector
abbrev pub BringsNoState : RackView → Type 0
BringsNoState x = (before : Standing) → standing (disks_of x) (now_in x) ≡ Some before → (p : ℕ) → look before.targets (log_slice p) 0 ≡ None

-- a gate of a lower number
abbrev pub IsGateBelow : ℕ → List ℕ → Type 0
IsGateBelow number block = (g : Gate) × (gate_of block ≡ Some g) × (g.number < number)

-- no gate, or one of a lower number
abbrev pub IsNoneOrBelow : ℕ → List ℕ → Type 0
IsNoneOrBelow number block = (block ≡ []) ⊎ IsGateBelow number block

-- each drive that joins by the record that is pending on contents of disks has a gate, of a lower number than the record's
abbrev pub TakesLowerIn : Disks → Image → Type 0
TakesLowerIn disks c =
    (before : Standing) → standing disks c ≡ Some before
    → (a : GateAt) (p d : ℕ) → pending_at (current_places before.state) before.logs ≡ Some a
    → PlaceJoins before.state (seated_state before.targets before.state) p → drive_of (seated_state before.targets before.state) disks before.identities p ≡ Some d
    → arrays_first ≤ disks.sectors d → IsGateBelow a.gate.number (c d drive_gate)

-- so it is with what disks hold
abbrev pub TakesLower : RackView → Type 0
TakesLower x = TakesLowerIn (disks_of x) (now_in x)

-- The record that a log found on these places brings the state s where s0 stands, or none. Its copies are of s. The places that stay
-- keep their disks, that which the record is read from too, for which it has a copy where s is a later state; those that join have gates of lower
-- numbers.
pub record BringsState (x : RackView) (known : List Known) (s0 s : State) (l : LogView) (on : List ℕ) (c : Image) : Type 0 where
  pub seats : (p : ℕ) → PlaceStays s0 s p → seat_by s known p ≡ seat_by s0 known p
  pub copies : (p : ℕ) (u : List ℕ) → look l.pending (log_slice p) 0 ≡ Some u → decoded u ≡ Ok (record { state = s; own = p })
  pub next : (s ≡ s0) ⊎ (s0.epoch < s.epoch)
  pub at : GateAt
  pub source : pending_at (left_of on []) c ≡ Some at
  pub left : PlaceStays s0 s at.place
  pub copy : (s ≡ s0) ⊎ ((u : List ℕ) × (look l.pending (log_slice at.place) 0 ≡ Some u))
  pub joins :
      (p d : ℕ) → PlaceJoins s0 s p → seat_by s known p ≡ Some d → arrays_first ≤ x.sectors d
      → IsGateBelow at.gate.number (now_in x d drive_gate)

-- Slices of the drives that are seated so, each where the drive's table has it: all log slices that there are, and any of members.
pub record AreOfDrives (x : RackView) (seats : ℕ → Option ℕ) (t : Slices) : Type 0 where
  pub orderly : IsOrderly t
  pub inside : IsInside t x
  pub seated : (p : ℕ) → p < 16 → seat_of t p ≡ seats p
  pub beyond : (k : ℕ) → 272 ≤ k → sectors_of t k ≡ 0
  pub lies :
      (k d : ℕ) → k < 272 → seat_of t (place_of k) ≡ Some d → (slice_of k ≡ 0) ⊎ (0 < sectors_of t k)
      → Lies t k (extent_by (x.sectors d) (the_table (x.sectors d) (now_in x d)) (slice_of k))

-- where a record's targets land on the drives of the state that it is for, by what contents of disks say
abbrev pub landed_on : Disks → State → List Target → Image → List Target
landed_on disks s xs c = filter_map (landed disks (identities_of disks c) (drive_of s disks (identities_of disks c))) xs

-- all of these targets are written
abbrev pub AreAllWritten : Disks → List Target → Image → Type 0
AreAllWritten disks xs i = (d t : ℕ) (w : List ℕ) → d < disks.count → t < disks.sectors d → look xs d t ≡ Some w → i d t ≡ w

-- gates of logs are as they were
abbrev pub AreGatesKept : Disks → Image → Image → Type 0
AreGatesKept disks c i = (d : ℕ) → d < disks.count → drive_gate < disks.sectors d → i d drive_gate ≡ c d drive_gate

-- so are the copies of the state
abbrev pub AreStatesKept : Disks → Image → Image → Type 0
AreStatesKept disks c i = (d : ℕ) → d < disks.count → state_sector < disks.sectors d → i d state_sector ≡ c d state_sector

-- one of the targets that are a copy of the state is written
pub record IsCopyWritten (disks : Disks) (xs : List Target) (i : Image) : Type 0 where
  pub disk : ℕ
  pub there : disk < disks.count
  pub room : state_sector < disks.sectors disk
  pub copy : look xs disk state_sector ≡ Some (i disk state_sector)

-- Contents i where the state s stands already that the targets are for: it stood before, or one drive has got its copy. On its drives the record is pending
-- yet, or all of it is written and nothing is pending, and no log is damaged.
pub record StandsBrought (disks : Disks) (s0 s : State) (xs : List Target) (c i : Image) : Type 0 where
  pub copied : (s ≡ s0) ⊎ IsCopyWritten disks (landed_on disks s xs c) i
  pub gates : AreGatesKept disks c i ⊎ AreAllWritten disks (landed_on disks s xs c) i
  pub pends :
      (pending (current_places s) (logs_of disks (drive_of s disks (identities_of disks c)) i) ≡ xs)
      ⊎ (AreAllWritten disks (landed_on disks s xs c) i × (pending (current_places s) (logs_of disks (drive_of s disks (identities_of disks c)) i) ≡ []))
  pub whole : damaged_log (current_places s) (logs_of disks (drive_of s disks (identities_of disks c)) i) ≡ None

-- Contents i of disks as a stop in the replay of these targets leaves them, where by contents c the state s0 stood and the targets are for drives of the
-- state s: sectors without a target are as they were, but for gates of logs, and each copy of the state is too, or as its target has it. No copy and no gate
-- has changed yet, or s stands already.
pub record StandsReplaying (disks : Disks) (s0 s : State) (xs : List Target) (c i : Image) : Type 0 where
  pub others :
      (d t : ℕ) → d < disks.count → t < disks.sectors d → (t ≢ drive_gate) ⊎ (disks.sectors d < arrays_first)
      → look (landed_on disks s xs c) d t ≡ None → i d t ≡ c d t
  pub copies :
      (d : ℕ) → d < disks.count → state_sector < disks.sectors d
      → (i d state_sector ≡ c d state_sector) ⊎ (look (landed_on disks s xs c) d state_sector ≡ Some (i d state_sector))
  pub says : (AreStatesKept disks c i × AreGatesKept disks c i) ⊎ StandsBrought disks s0 s xs c i

-- so it is of the record that is pending in contents c
pub record StandsMidway (disks : Disks) (c i : Image) : Type 0 where
  pub before : Standing
  pub stands : standing disks c ≡ Some before
  pub is : StandsReplaying disks before.state (seated_state before.targets before.state) before.targets c i

-- contents, once the pending record is replayed, give by slices what the disks do now, but for gates and halves of logs
abbrev pub GivesNow : Slices → RackView → Image → Type 0
GivesNow t y i = IsAlike (replayed (sectors_of t) (sliced t i)) (replayed (sectors_of t) (sliced t (now_in y)))

-- Calls in which the replayed contents stay: what a stop leaves before them, at each moment and after them gives what the disks do then.
pub record KeepsReplayed (x y : RackView) (t : Slices) : Type 0 where
  pub first : (i : Image) → IsPick x x x.held i → GivesNow t y i
  pub during : x.traced → Leaves x y (GivesNow t y)
  pub last : (i : Image) → IsPick y y y.held i → GivesNow t y i
